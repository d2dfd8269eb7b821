use Rattle.judged_records.proofs.OfLaws.SlotLosses.{asks_after_loss}
use Rattle.judged_records.proofs.theorems.asks_after_loss.Goals as goal

pub returns : goal.returns
returns g c = asks_after_loss g.R.CommitRule.protocol g.met.R.CommitRule.block_loss
