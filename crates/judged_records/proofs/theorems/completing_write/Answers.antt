use Rattle.judged_records.proofs.OfLaws.ImageLaws.{image_completing_law}
use Rattle.judged_records.proofs.theorems.completing_write.Goals as goal

pub returns : goal.returns
returns g c = image_completing_law g.R.CommitRule.protocol g.met.R.CommitRule.written_completing_write
