use Rattle.std.proofs.Common.{sym}
use Rattle.tx_types.proofs.Writes.{length-writes_in}
use Rattle.tx_types.proofs.batch.Batch.len.Goals as goal

pub returns : goal.returns
returns c = rw (← c.self.view_is) (sym (length-writes_in c.self.inside.page_bytes c.self.inside.count
    c.self.inside.cells.items))
