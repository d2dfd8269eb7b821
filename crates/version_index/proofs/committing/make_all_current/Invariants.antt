use Rattle.version_index.proofs.Common.{◌≡◌}
use Rattle.version_index.specs.Written.{pages_written}
use Rattle.version_index.proofs.OfCommit.KeptRounds.{IsTakingRound}
use Rattle.version_index.proofs.committing.make_all_current.Given as goal

abbrev pub invariant-loop : goal.invariant-loop
invariant-loop l = record {
  taking : IsTakingRound l.initial.tables l.tables l.start l.link l.counter;
  written : l.written ≡ pages_written l.tables;
}
