-- The garbage of the old spare is counted anew, and the new one has none.
use Rattle.slot_tables.proofs.Common.{◌<◌, length, arith}
use Rattle.slot_tables.proofs.OfLiveSlots.Counted.{garbage_few, size_few, first_spare, next_spare}
use Rattle.slot_tables.proofs.live_slots.LiveSlots.set_spare.Goals as goal
use Rattle.slot_tables.proofs.live_slots.LiveSlots.set_spare.Goals.{in-Some, in_default}

pub recount-requires-clause-few : goal.recount-requires-clause-few
recount-requires-clause-few c = let few = garbage_few c.self.inside c.self.invariant in omega (arith, few)

pub recount-requires-2-clause-few : goal.recount-requires-2-clause-few
recount-requires-2-clause-few c =
    let n = c.self.inside in
    let h = c.self.invariant in
    let low : c.args.block.0 < length n.garbage = rw (← c.self.view_is) at c.requires in
    let few = garbage_few n h in
    let size = size_few n.marks (length n.garbage) c.args.block.0 h.sized low h.small in
    elim c.match-before.branch [
      | in-Some w ↦ rw w.self-inside-is (omega (arith, few, size, w.recount.ensures.few))
      | in_default w ↦ rw w.self-inside-is (omega (arith, few))
    ]

pub invariant_of-self : goal.invariant_of-self
invariant_of-self c =
    let n = c.self.inside in
    let low : c.args.block.0 < length n.garbage = rw (← c.self.view_is) at c.requires in
    elim c.match-before.branch [
      | in-Some w ↦
          rw (c.recount-2.ensures.garbage, w.self-inside-is, w.recount.ensures.garbage)
          (next_spare n c.self.invariant c.args.block low w.in-Some.old w.in-Some.is)
      | in_default w ↦
          rw (c.recount-2.ensures.garbage, w.self-inside-is)
          (first_spare n c.self.invariant c.args.block low w.in_default.is)
    ]
