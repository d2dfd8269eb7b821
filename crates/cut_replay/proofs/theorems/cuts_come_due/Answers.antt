use Rattle.cut_replay.proofs.Due.{sets_due, waits_in_run, comes_in_calls, mounts_uncut, still_uncut}
use Rattle.cut_replay.proofs.theorems.cuts_come_due.Goals as goal

pub returns-clause-armed : goal.returns-clause-armed
returns-clause-armed c = sets_due

pub returns-clause-waits : goal.returns-clause-waits
returns-clause-waits c = waits_in_run

pub returns-clause-calls : goal.returns-clause-calls
returns-clause-calls c = comes_in_calls

pub returns-clause-mount : goal.returns-clause-mount
returns-clause-mount c = mounts_uncut

pub returns-clause-still : goal.returns-clause-still
returns-clause-still c = still_uncut
