use Rattle.verdict_check.proofs.Common.{length, ◌≡◌, AreNewestOf}
use Rattle.verdict_check.proofs.places.note_newest.Given as goal

abbrev pub invariant-loop-at : goal.invariant-loop-at
invariant-loop-at l = AreNewestOf l.list l.at l.places × (length l.places ≡ length l.initial.places)
