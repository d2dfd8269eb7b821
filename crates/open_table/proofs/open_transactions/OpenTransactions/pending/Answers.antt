use Rattle.open_table.proofs.Common.{arith}
use Rattle.open_table.proofs.OfTransactions.OpenPages.{pages_of_transactions}
use Rattle.open_table.proofs.open_transactions.OpenTransactions.pending.Goals as goal

pub returns : goal.returns
returns c =
    let count = pages_of_transactions c.self.inside.all.items in
    rw (← c.self.view_is) (omega (arith, c.self.invariant.rooms))
