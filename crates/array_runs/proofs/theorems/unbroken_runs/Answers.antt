use Rattle.array_runs.proofs.Unbroken.{command_fine, run_fine, none_spent}
use Rattle.array_runs.proofs.theorems.unbroken_runs.Goals as goal

pub returns-clause-command : goal.returns-clause-command
returns-clause-command c = command_fine

pub returns-clause-run : goal.returns-clause-run
returns-clause-run c = run_fine

pub returns-clause-unspent : goal.returns-clause-unspent
returns-clause-unspent c = none_spent
