use Rattle.lost_writes.proofs.OnImages.{images_are_one_run}
use Rattle.lost_writes.proofs.Sessions.{sessions_are_one_run, acknowledged_survives, others_are_whole_or_absent, loss_leaves_transactions}
use Rattle.lost_writes.proofs.theorems.sessions_are_one_run.Goals as goal

pub returns-clause-run : goal.returns-clause-run
returns-clause-run c = sessions_are_one_run

pub returns-clause-acknowledged : goal.returns-clause-acknowledged
returns-clause-acknowledged c = acknowledged_survives

pub returns-clause-others : goal.returns-clause-others
returns-clause-others c = others_are_whole_or_absent

pub returns-clause-loss : goal.returns-clause-loss
returns-clause-loss c = loss_leaves_transactions

pub returns-clause-images : goal.returns-clause-images
returns-clause-images c = images_are_one_run
