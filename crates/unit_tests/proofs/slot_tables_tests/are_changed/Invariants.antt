use Rattle.std.proofs.Common.{◌≡◌, length}
use Rattle.unit_tests.specs.declared.slot_tables_tests.TheConstants.{SHAPE}
use Rattle.unit_tests.proofs.slot_tables_tests.are_changed.Given as goal

abbrev pub invariant-loop : goal.invariant-loop
invariant-loop l = (l.tables.shape ≡ SHAPE) × (length l.tables.pages ≡ 4)
