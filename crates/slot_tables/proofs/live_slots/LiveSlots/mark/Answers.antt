-- The garbage of the slot's block stays, or is counted anew, once.
use Rattle.slot_tables.proofs.Common.{◌<◌, length, arith}
use Rattle.slot_tables.proofs.OfLiveSlots.Counted.{garbage_few, block_lies, both_set, both_kept}
use Rattle.slot_tables.proofs.live_slots.LiveSlots.mark.Goals as goal

pub keeps_garbage-stays-requires-clause-sized : goal.keeps_garbage-stays-requires-clause-sized
keeps_garbage-stays-requires-clause-sized c =
    let n = c.self.inside in
    let low : c.args.at < length n.marks.needed.marks = rw (← c.self.view_is) at c.requires in
    (length n.garbage, c.self.invariant.sized, rw c.group-block.ensures (block_lies n c.self.invariant c.args.at low))

pub invariant_of-self : goal.invariant_of-self
invariant_of-self c =
    let n = c.self.inside in
    let low : c.args.at < length n.marks.needed.marks = rw (← c.self.view_is) at c.requires in
    rw (c.set_in-2.ensures, c.set_in.ensures)
    (both_kept n c.self.invariant c.args.at c.args.needed c.args.blank low
    (rw c.group-block.ensures at (c.keeps_garbage-stays.ensures c.if-stays.true)))

pub recount-requires-clause-few : goal.recount-requires-clause-few
recount-requires-clause-few c = let few = garbage_few c.self.inside c.self.invariant in omega (arith, few)

pub invariant_of-self-2 : goal.invariant_of-self-2
invariant_of-self-2 c =
    let n = c.self.inside in
    let low : c.args.at < length n.marks.needed.marks = rw (← c.self.view_is) at c.requires in
    rw (c.recount.ensures.garbage, c.set_in-2.ensures, c.set_in.ensures, c.group-block.ensures)
    (both_set n c.self.invariant c.args.at c.args.needed c.args.blank low)

pub set_in-requires-2-clause-group : goal.set_in-requires-2-clause-group
set_in-requires-2-clause-group c = rw c.self.invariant.sized.size c.group-block.ensures
