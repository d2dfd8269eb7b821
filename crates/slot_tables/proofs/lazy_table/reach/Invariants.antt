use Rattle.slot_tables.proofs.Common.{◌≡◌, ◌-◌, ◌≤◌, ◌⊎◌, ◌++◌, length, replicate}
use Rattle.std.specs.Vec.{vec_capacity}
use Rattle.slot_tables.proofs.lazy_table.reach.Given as goal

abbrev pub invariant-loop-first : goal.invariant-loop-first
invariant-loop-first g l =
    (l.first.items ≡ l.initial.first.items ++ replicate (length l.first.items - length l.initial.first.items) l.rest)
    × ((length l.first.items ≤ l.end) ⊎ (l.first.items ≡ l.initial.first.items))
    × (length l.initial.first.items ≤ length l.first.items)
    × (vec_capacity l.first ≡ vec_capacity l.initial.first)

abbrev pub decreases-loop-first : goal.decreases-loop-first
decreases-loop-first g l = l.end - length l.first.items
