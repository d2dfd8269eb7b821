use Rattle.cut_replay.proofs.Quiet.{run_from}
use Rattle.cut_replay.proofs.theorems.flash_runs_are_runs.Goals as goal

pub returns : goal.returns
returns c = run_from
