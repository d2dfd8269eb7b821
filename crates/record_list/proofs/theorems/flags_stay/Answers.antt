mod Flags
use Rattle.record_list.proofs.theorems.flags_stay.Answers.Flags.{write_keeps_flags, others_keep_flags, copy_keeps_flags, loss_keeps_flags}
use Rattle.record_list.proofs.theorems.flags_stay.Goals as goal

pub returns-clause-write : goal.returns-clause-write
returns-clause-write c = write_keeps_flags

pub returns-clause-others : goal.returns-clause-others
returns-clause-others c = others_keep_flags

pub returns-clause-copy : goal.returns-clause-copy
returns-clause-copy c = copy_keeps_flags

pub returns-clause-loss : goal.returns-clause-loss
returns-clause-loss c = loss_keeps_flags
