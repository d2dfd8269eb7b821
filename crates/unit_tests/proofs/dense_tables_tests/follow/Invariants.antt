use Rattle.std.proofs.Common.{◌≡◌, length}
use Rattle.unit_tests.proofs.dense_tables_tests.follow.Given as goal

abbrev pub invariant-loop : goal.invariant-loop
invariant-loop l = (length l.peaks ≡ 300) × (length l.numbers ≡ 300)
