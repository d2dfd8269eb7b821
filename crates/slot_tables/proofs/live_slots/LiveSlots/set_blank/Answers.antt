-- The garbage of the slot's block stays, or is counted anew.
use Rattle.slot_tables.proofs.Common.{◌<◌, length, arith}
use Rattle.slot_tables.proofs.OfLiveSlots.Counted.{garbage_few, blank_lies, blank_set, blank_kept}
use Rattle.slot_tables.proofs.live_slots.LiveSlots.set_blank.Goals as goal

pub stays_shut-stays-requires-clause-sized : goal.stays_shut-stays-requires-clause-sized
stays_shut-stays-requires-clause-sized c =
    let n = c.self.inside in
    let low : c.args.at < length n.marks.blanks.marks = rw (← c.self.view_is) at c.requires in (
      length n.garbage,
      c.self.invariant.sized,
      rw (c.group-block.ensures, c.self.invariant.sized.size) (blank_lies n c.self.invariant c.args.at low),
    )

pub invariant_of-self : goal.invariant_of-self
invariant_of-self c =
    let n = c.self.inside in
    let low : c.args.at < length n.marks.blanks.marks = rw (← c.self.view_is) at c.requires in
    let block = rw c.self.invariant.sized.size at c.group-block.ensures in
    rw c.set_in.ensures
    (blank_kept n c.self.invariant c.args.at c.args.blank low
    (rw block at (c.stays_shut-stays.ensures c.if-stays.true c.args.blank)))

pub recount-requires-clause-few : goal.recount-requires-clause-few
recount-requires-clause-few c = let few = garbage_few c.self.inside c.self.invariant in omega (arith, few)

pub invariant_of-self-2 : goal.invariant_of-self-2
invariant_of-self-2 c =
    let n = c.self.inside in
    let low : c.args.at < length n.marks.blanks.marks = rw (← c.self.view_is) at c.requires in
    let block = rw c.self.invariant.sized.size at c.group-block.ensures in
    rw (c.recount.ensures.garbage, c.set_in.ensures, block)
    (blank_set n c.self.invariant c.args.at c.args.blank low)

pub stays_shut-stays-requires-clause-block : goal.stays_shut-stays-requires-clause-block
stays_shut-stays-requires-clause-block c = rw c.self.invariant.sized.size at c.group-block.ensures

pub stays_shut-stays-requires-clause-slot : goal.stays_shut-stays-requires-clause-slot
stays_shut-stays-requires-clause-slot c =
    let n = c.self.inside in
    let low : c.args.at < length n.marks.blanks.marks = rw (← c.self.view_is) at c.requires in
    omega (arith, low, c.self.invariant.sized.needed, c.self.invariant.sized.blanks)
