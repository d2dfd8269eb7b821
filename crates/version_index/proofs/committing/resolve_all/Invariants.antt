pub mod AnsweredRounds
use Rattle.version_index.proofs.Common.{◌≡◌}
use Rattle.version_index.proofs.committing.resolve_all.Invariants.AnsweredRounds.{IsAnsweringRound}
use Rattle.version_index.proofs.committing.resolve_all.Given as goal

abbrev pub invariant-loop : goal.invariant-loop
invariant-loop l = record {
  answering : IsAnsweringRound l.initial.tables l.tables l.start l.link l.counter;
  current : l.tables.current ≡ l.initial.tables.current;
}
