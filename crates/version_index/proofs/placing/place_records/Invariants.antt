use Rattle.version_index.proofs.Common.{◌≡◌}
use Rattle.version_index.specs.Filling.{ArePut}
use Rattle.version_index.proofs.placing.place_records.Given as goal

abbrev pub invariant-loop-i : goal.invariant-loop-i
invariant-loop-i l = record {
  rest : l.tables ≡ record l.initial.tables { slots = l.tables.slots };
  put : ArePut l.records l.numbers l.initial.tables.slots l.i l.tables.slots;
}
