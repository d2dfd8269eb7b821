use Rattle.judged_records.proofs.OfLaws.DerivedLaws.{whole_write_law}
use Rattle.judged_records.proofs.theorems.whole_write.Goals as goal

pub returns : goal.returns
returns g c = whole_write_law g.R.CommitRule.protocol g.met.R.CommitRule.completing_write
