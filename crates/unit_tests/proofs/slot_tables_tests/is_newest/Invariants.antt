use Rattle.std.proofs.Common.{◌≡◌, ◌<◌, ℕ, Some}
use Rattle.tx_types.specs.declared.record.Rec.{Rec}
use Rattle.slot_tables.specs.TablesState.{record_at}
use Rattle.unit_tests.proofs.slot_tables_tests.is_newest.Given as goal

abbrev pub invariant-loop-number : goal.invariant-loop-number
invariant-loop-number l =
    (number : ℕ) → number < l.number → (r : Rec) → record_at l.tables.records number ≡ Some r → r.page ≡ l.rec.page →
    r.version < l.rec.version
