-- The garbage of the slot's block is counted anew, or is one more.
use Rattle.slot_tables.proofs.Common.{◌<◌, length, sym, ◌∙◌, arith}
use Rattle.slot_tables.proofs.OfLiveSlots.Counted.{garbage_few, needed_set, one_freed}
use Rattle.slot_tables.proofs.OfLiveSlots.Tallying.{differ_from_false}
use Rattle.slot_tables.proofs.live_slots.LiveSlots.set.Goals as goal

pub recount-requires-clause-few : goal.recount-requires-clause-few
recount-requires-clause-few c = let few = garbage_few c.self.inside c.self.invariant in omega (arith, few)

pub invariant_of-self : goal.invariant_of-self
invariant_of-self c =
    let n = c.self.inside in
    let low : c.args.at < length n.marks.needed.marks = rw (← c.self.view_is) at c.requires in
    rw (c.recount.ensures.garbage, c.set_in.ensures, c.group-block.ensures)
    (needed_set n c.self.invariant c.args.at c.args.needed low)

pub recount_more-requires-clause-few : goal.recount_more-requires-clause-few
recount_more-requires-clause-few c = let few = garbage_few c.self.inside c.self.invariant in omega (arith, few)

pub recount_more-requires-clause-more : goal.recount_more-requires-clause-more
recount_more-requires-clause-more c = λ some.
    let n = c.self.inside in
    let low : c.args.at < length n.marks.needed.marks = rw (← c.self.view_is) at c.requires in
    let was = sym c.get.ensures ∙ differ_from_false c.get.result c.args.needed c.if-get-needed.false c.if-needed.false in
    rw (c.set_in.ensures, c.if-needed.false, c.group-block.ensures)
    (one_freed n c.self.invariant c.args.at low was (rw c.group-block.ensures at some))

pub invariant_of-self-2 : goal.invariant_of-self-2
invariant_of-self-2 c =
    let n = c.self.inside in
    let low : c.args.at < length n.marks.needed.marks = rw (← c.self.view_is) at c.requires in
    rw (c.recount_more.ensures, c.set_in.ensures, c.group-block.ensures)
    (needed_set n c.self.invariant c.args.at c.args.needed low)
