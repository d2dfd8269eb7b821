use Rattle.judged_records.proofs.OfLaws.ImageLaws.{image_loss_law}
use Rattle.judged_records.proofs.theorems.block_loss.Goals as goal

pub returns : goal.returns
returns g c = image_loss_law g.R.CommitRule.protocol g.met.R.CommitRule.written_block_loss
