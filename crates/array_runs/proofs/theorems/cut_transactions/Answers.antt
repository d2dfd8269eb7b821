use Rattle.array_runs.proofs.Atomic.{lost_whole_or_same, lost_whole, lost_others}
use Rattle.array_runs.proofs.Closed.{lost_closes}
use Rattle.array_runs.proofs.theorems.cut_transactions.Goals as goal

pub returns-clause-closed : goal.returns-clause-closed
returns-clause-closed c = lost_closes

pub returns-clause-none_open : goal.returns-clause-none_open
returns-clause-none_open c = λ d old r new lost. lost.1.2

pub returns-clause-atomic : goal.returns-clause-atomic
returns-clause-atomic c = lost_whole_or_same

pub returns-clause-whole : goal.returns-clause-whole
returns-clause-whole c = lost_whole

pub returns-clause-others : goal.returns-clause-others
returns-clause-others c = lost_others
