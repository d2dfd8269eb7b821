use Rattle.array_runs.proofs.AbortLaws.{idle_one_tag, run_one_tag}
use Rattle.array_runs.proofs.theorems.tagged_transactions.Goals as goal

pub returns-clause-idle : goal.returns-clause-idle
returns-clause-idle c = idle_one_tag

pub returns-clause-one : goal.returns-clause-one
returns-clause-one c = run_one_tag
