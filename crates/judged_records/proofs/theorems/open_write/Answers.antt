use Rattle.judged_records.proofs.OfLaws.DerivedLaws.{open_write_law}
use Rattle.judged_records.proofs.theorems.open_write.Goals as goal

pub returns : goal.returns
returns g c = open_write_law g.R.CommitRule.protocol g.met.R.CommitRule.partial_write
