use Rattle.array_runs.proofs.AbortLaws.{aborted_same, aborted_changed_nothing}
use Rattle.array_runs.proofs.theorems.aborted_transactions.Goals as goal

pub returns-clause-open : goal.returns-clause-open
returns-clause-open c = aborted_same

pub returns-clause-nothing : goal.returns-clause-nothing
returns-clause-nothing c = aborted_changed_nothing
