use Rattle.array_runs.proofs.Atomic.{acknowledged_stays}
use Rattle.array_runs.proofs.theorems.acknowledged_transactions.Goals as goal

pub returns : goal.returns
returns c = acknowledged_stays
