use Rattle.array_runs.proofs.Quiet.{none_broken, finishes_done}
use Rattle.array_runs.proofs.theorems.quiet_runs.Goals as goal

pub returns-clause-none : goal.returns-clause-none
returns-clause-none c = none_broken

pub returns-clause-finish : goal.returns-clause-finish
returns-clause-finish c = finishes_done
