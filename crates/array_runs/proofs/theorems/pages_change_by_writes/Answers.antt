use Rattle.array_runs.proofs.Changes.{run_stays}
use Rattle.array_runs.proofs.theorems.pages_change_by_writes.Goals as goal

pub returns : goal.returns
returns c = run_stays
