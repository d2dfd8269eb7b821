-- All blocks were looked at.
use Rattle.slot_tables.proofs.Common.{◌≡◌, subst, arith}
use Rattle.slot_tables.specs.Counts.{unmarked_in}
use Rattle.slot_tables.proofs.OfLiveSlots.Walks.{IsMost, most_none, most_found}
use Rattle.slot_tables.proofs.live_slots.LiveSlots.most_unneeded.Goals as goal

pub returns-clause-none : goal.returns-clause-none
returns-clause-none c =
    let n = c.args.self.now in
    let whole : c.loop-block.block ≡ n.blocks = omega (arith, c.blocks-block-end.ensures.blocks) in
    most_none (unmarked_in n) n.blocks c.loop-block.most c.loop-block.found
    (subst (λ upto. IsMost (unmarked_in n) upto c.loop-block.most c.loop-block.found) whole c.loop-block.invariant)

pub returns-clause-first : goal.returns-clause-first
returns-clause-first c =
    let n = c.args.self.now in
    let whole : c.loop-block.block ≡ n.blocks = omega (arith, c.blocks-block-end.ensures.blocks) in
    most_found (unmarked_in n) n.blocks c.loop-block.most c.loop-block.found
    (subst (λ upto. IsMost (unmarked_in n) upto c.loop-block.most c.loop-block.found) whole c.loop-block.invariant)
