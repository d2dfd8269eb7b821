use Rattle.std.proofs.Common.{ℕ, ◌<◌}
use Rattle.std.specs.List.{Contains}
use Rattle.dense_tables.specs.LinkedLists.{list_of}
use Rattle.unit_tests.proofs.dense_tables_tests.is_free.Given as goal

abbrev pub invariant-loop-key : goal.invariant-loop-key
invariant-loop-key l = (key : ℕ) → key < l.key → Contains (list_of l.chains key) l.at → ⊥
