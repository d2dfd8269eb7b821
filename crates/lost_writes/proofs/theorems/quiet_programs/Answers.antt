use Rattle.judged_records.proofs.OfLaws.ImageLaws.{image_partial_law, image_copy_law}
use Rattle.lost_writes.proofs.Quiet.{quiet_programs}
use Rattle.lost_writes.proofs.theorems.quiet_programs.Goals as goal

pub returns : goal.returns
returns g c = quiet_programs g.R.CommitRule.protocol
    (image_partial_law g.R.CommitRule.protocol g.met.R.CommitRule.written_partial_write)
    (image_copy_law g.R.CommitRule.protocol g.met.R.CommitRule.written_copy)
