-- The records so far are those of the slots before this one.
use Rattle.std.proofs.Common.{◌≡◌, take}
use Rattle.judged_records.specs.Notes.{found_in}
use Rattle.device_tests.proofs.indexing.tables.records.Given as goal

abbrev pub invariant-loop-at : goal.invariant-loop-at
invariant-loop-at g l = l.list.items ≡ found_in (take l.at l.index.notes)
