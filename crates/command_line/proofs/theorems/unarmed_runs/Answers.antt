use Rattle.command_line.proofs.ArrayRuns.{unarmed}
use Rattle.command_line.proofs.theorems.unarmed_runs.Goals as goal

pub returns : goal.returns
returns c = unarmed
