use Rattle.std.proofs.Common.{◌≡◌, length}
use Rattle.unit_tests.proofs.dense_tables_tests.are_linked.Given as goal

abbrev pub invariant-loop-line : goal.invariant-loop-line
invariant-loop-line l = (length l.chains.lists ≡ 3) × (l.chains.places ≡ 8)
