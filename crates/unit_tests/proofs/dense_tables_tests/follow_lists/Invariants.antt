use Rattle.std.proofs.Common.{◌≡◌, length, vec_len}
use Rattle.unit_tests.proofs.dense_tables_tests.follow_lists.Given as goal

abbrev pub invariant-loop : goal.invariant-loop
invariant-loop l = (length l.chains.lists ≡ 3) × (l.chains.places ≡ 8) × (vec_len l.lists ≡ 3)
