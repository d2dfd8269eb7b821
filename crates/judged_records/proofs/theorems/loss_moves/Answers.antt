use Rattle.judged_records.proofs.OfLaws.DerivedLaws.{loss_moves_law}
use Rattle.judged_records.proofs.theorems.loss_moves.Goals as goal

pub returns : goal.returns
returns g c = loss_moves_law g.R.CommitRule.protocol g.met.R.CommitRule.block_loss
