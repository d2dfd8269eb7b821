use Rattle.lost_writes.proofs.Commands.{writing_loss, programming_loss, erasing_loss, loss_is_cut}
use Rattle.judged_records.proofs.OfLaws.ImageLaws.{image_partial_law, image_copy_law}
use Rattle.lost_writes.proofs.Quiet.{quiet_programs}
use Rattle.lost_writes.proofs.Sessions.{mentions_fall}
use Rattle.lost_writes.proofs.theorems.losses_are_cuts.Goals as goal

pub returns-clause-writing : goal.returns-clause-writing
returns-clause-writing g c = writing_loss g.R.CommitRule.protocol g.met.R.CommitRule.block_loss
    g.met.R.CommitRule.partial_write g.met.R.CommitRule.completing_write

pub returns-clause-programming : goal.returns-clause-programming
returns-clause-programming g c = programming_loss g.R.CommitRule.protocol g.met.R.CommitRule.block_loss
    g.met.R.CommitRule.partial_write g.met.R.CommitRule.completing_write
    (quiet_programs g.R.CommitRule.protocol
    (image_partial_law g.R.CommitRule.protocol g.met.R.CommitRule.written_partial_write)
    (image_copy_law g.R.CommitRule.protocol g.met.R.CommitRule.written_copy))

pub returns-clause-erasing : goal.returns-clause-erasing
returns-clause-erasing g c = erasing_loss g.R.CommitRule.protocol g.met.R.CommitRule.block_loss

pub returns-clause-step : goal.returns-clause-step
returns-clause-step g c = loss_is_cut g.R.CommitRule.protocol

pub returns-clause-mentions : goal.returns-clause-mentions
returns-clause-mentions g c = mentions_fall g.R.CommitRule.protocol
