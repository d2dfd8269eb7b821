use Rattle.sorted_records.proofs.Common.{◌≡◌, ◌-◌, ◌≤◌, ◌++◌, length}
use Rattle.std.proofs.Common.{replicate}
use Rattle.std.specs.Vec.{vec_capacity}
use Rattle.sorted_records.proofs.search.fill.Given as goal

abbrev pub invariant-loop-numbers : goal.invariant-loop-numbers
invariant-loop-numbers l =
    (l.numbers.items ≡ l.initial.numbers.items ++ replicate (length l.numbers.items - length l.initial.numbers.items)
    l.number)
    × (length l.numbers.items ≤ l.size)
    × (length l.initial.numbers.items ≤ length l.numbers.items)
    × (vec_capacity l.numbers ≡ vec_capacity l.initial.numbers)

abbrev pub decreases-loop-numbers : goal.decreases-loop-numbers
decreases-loop-numbers l = l.size - length l.numbers.items
