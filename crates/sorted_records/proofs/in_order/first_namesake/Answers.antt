use Rattle.sorted_records.proofs.Common.{sym, ◌∙◌}
use Rattle.sorted_records.proofs.OfSort.Order.{first_here}
use Rattle.sorted_records.proofs.OfWalk.WalkOrbits.{own_place}
use Rattle.sorted_records.proofs.in_order.first_namesake.Goals as goal

pub returns-then-is_below_before : goal.returns-then-is_below_before
returns-then-is_below_before c =
    first_here c.args.records.now c.args.at c.requires.within
    (rw c.name-name.ensures at (c.is_below_before.ensures c.if-is_below_before.true))

pub unreachable-requires : goal.unreachable-requires
unreachable-requires c =
    own_place c.args.records.now c.args.at c.requires.within
    (rw c.name-name.ensures at (sym c.find.ensures ∙ c.in-None.is))
