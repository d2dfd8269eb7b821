mod WalkSteps
pub mod KeptWalks
use Rattle.version_index.proofs.committing.completes.Invariants.KeptWalks.{IsWalking}
use Rattle.version_index.proofs.committing.completes.Given as goal

abbrev pub invariant-loop : goal.invariant-loop
invariant-loop l = IsWalking l.tables l.rec l.logical l.counter l.link
