use Rattle.version_index.proofs.Common.{AreDecided}
use Rattle.version_index.proofs.deciding.decide_records.Given as goal

abbrev pub invariant-loop-at : goal.invariant-loop-at
invariant-loop-at l = AreDecided l.standing.protocol l.standing.list l.numbers l.logical l.initial.tables l.tables l.at
