use Rattle.array_runs.proofs.Atomic.{idle_consistent, run_consistent}
use Rattle.array_runs.proofs.theorems.consistent_runs.Goals as goal

pub returns-clause-idle : goal.returns-clause-idle
returns-clause-idle c = idle_consistent

pub returns-clause-run : goal.returns-clause-run
returns-clause-run c = run_consistent
