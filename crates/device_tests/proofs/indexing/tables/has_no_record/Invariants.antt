-- No slot before this one holds a record.
use Rattle.std.proofs.Common.{◌≡◌, [], take}
use Rattle.judged_records.specs.Notes.{found_in}
use Rattle.device_tests.proofs.indexing.tables.has_no_record.Given as goal

abbrev pub invariant-loop-at : goal.invariant-loop-at
invariant-loop-at g l = found_in (take l.at l.index.notes) ≡ []
