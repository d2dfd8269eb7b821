-- The garbage of the block is counted anew.
use Rattle.slot_tables.proofs.Common.{◌<◌, length, arith}
use Rattle.slot_tables.proofs.OfLiveSlots.Counted.{garbage_few, closed_set}
use Rattle.slot_tables.proofs.live_slots.LiveSlots.set_closed.Goals as goal

pub recount-requires-clause-few : goal.recount-requires-clause-few
recount-requires-clause-few c = let few = garbage_few c.self.inside c.self.invariant in omega (arith, few)

pub invariant_of-self : goal.invariant_of-self
invariant_of-self c =
    let n = c.self.inside in
    let low : c.args.block.0 < length n.garbage = rw (← c.self.view_is) at c.requires in
    rw c.recount.ensures.garbage (closed_set n c.self.invariant c.args.block.0 c.args.closed low)
