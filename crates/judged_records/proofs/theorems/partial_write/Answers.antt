use Rattle.judged_records.proofs.OfLaws.ImageLaws.{image_partial_law}
use Rattle.judged_records.proofs.theorems.partial_write.Goals as goal

pub returns : goal.returns
returns g c = image_partial_law g.R.CommitRule.protocol g.met.R.CommitRule.written_partial_write
