use Rattle.array_runs.proofs.Atomic.{transaction_atomic}
use Rattle.array_runs.proofs.theorems.transactions_are_atomic.Goals as goal

pub returns : goal.returns
returns c = transaction_atomic
