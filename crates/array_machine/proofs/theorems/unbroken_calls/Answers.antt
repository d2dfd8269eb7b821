use Rattle.array_machine.proofs.UnbrokenCalls.{settled_same, step_fine, abort_fine}
use Rattle.array_machine.proofs.theorems.unbroken_calls.Goals as goal

pub returns-clause-settled : goal.returns-clause-settled
returns-clause-settled c = settled_same

pub returns-clause-step : goal.returns-clause-step
returns-clause-step c = step_fine

pub returns-clause-abort : goal.returns-clause-abort
returns-clause-abort c = abort_fine
