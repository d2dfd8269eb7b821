use Rattle.judged_records.proofs.OfLaws.ImageLaws.{image_copy_law}
use Rattle.judged_records.proofs.theorems.copy.Goals as goal

pub returns : goal.returns
returns g c = image_copy_law g.R.CommitRule.protocol g.met.R.CommitRule.written_copy
