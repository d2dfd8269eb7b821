use Rattle.array_runs.proofs.Closed.{run_closed}
use Rattle.array_runs.proofs.theorems.unmounted_runs.Goals as goal

pub returns : goal.returns
returns c = run_closed
