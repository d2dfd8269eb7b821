-- The marks stay, and the flag of one block is another.
mod ClosedFrame
use Rattle.slot_tables.proofs.Common.{◌<◌, blocks_of}
use Rattle.slot_tables.proofs.tables.Tables.set_closed.Answers.ClosedFrame.{closed_frame}
use Rattle.slot_tables.proofs.tables.Tables.set_closed.Goals as goal

pub invariant_of-self : goal.invariant_of-self
invariant_of-self c =
    let low : c.args.block.0 < blocks_of c.self.inside.base.shape = rw (← c.self.view_is) at c.requires in
    rw c.set_closed.ensures (closed_frame c.self.inside c.self.invariant c.args.block.0 c.args.closed low)
