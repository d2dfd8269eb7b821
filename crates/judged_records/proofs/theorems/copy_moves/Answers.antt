use Rattle.judged_records.proofs.OfLaws.DerivedLaws.{copy_moves_law}
use Rattle.judged_records.proofs.theorems.copy_moves.Goals as goal

pub returns : goal.returns
returns g c = copy_moves_law g.R.CommitRule.protocol g.met.R.CommitRule.copy
