use Rattle.std.proofs.Common.{◌<◌, ℕ}
use Rattle.std.specs.Option.{IfSome}
use Rattle.slot_tables.specs.TablesState.{record_at}
use Rattle.unit_tests.proofs.slot_tables_tests.are_above.Given as goal

abbrev pub invariant-loop-number : goal.invariant-loop-number
invariant-loop-number l = (number : ℕ) → number < l.number →
    IfSome (record_at l.tables.records number) (λ r. 0 < r.version)
