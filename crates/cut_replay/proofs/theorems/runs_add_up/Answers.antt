use Rattle.cut_replay.proofs.Totals.{run_last, run_spends, run_counts, run_mounts, run_up, last_set_in, last_is_live}
use Rattle.cut_replay.proofs.theorems.runs_add_up.Goals as goal

pub returns-clause-last : goal.returns-clause-last
returns-clause-last c = run_last

pub returns-clause-spends : goal.returns-clause-spends
returns-clause-spends c = run_spends

pub returns-clause-faults : goal.returns-clause-faults
returns-clause-faults c = run_counts

pub returns-clause-mounts : goal.returns-clause-mounts
returns-clause-mounts c = run_mounts

pub returns-clause-up : goal.returns-clause-up
returns-clause-up c = run_up

pub returns-clause-set : goal.returns-clause-set
returns-clause-set c = last_set_in

pub returns-clause-live : goal.returns-clause-live
returns-clause-live c = last_is_live
