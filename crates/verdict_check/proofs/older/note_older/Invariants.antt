use Rattle.verdict_check.proofs.Common.{length, ◌≡◌, AreOlder}
use Rattle.verdict_check.proofs.older.note_older.Given as goal

abbrev pub invariant-loop-found : goal.invariant-loop-found
invariant-loop-found l = AreOlder l.records.list.now l.found-index l.older × (length l.older ≡ length l.initial.older)
