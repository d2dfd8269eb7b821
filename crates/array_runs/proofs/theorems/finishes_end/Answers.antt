use Rattle.array_runs.proofs.Finishes.{steps_left}
use Rattle.array_runs.proofs.theorems.finishes_end.Goals as goal

pub returns : goal.returns
returns c = steps_left
