use Rattle.lost_writes.proofs.Folds.{lost_writes}
use Rattle.lost_writes.proofs.theorems.lost_writes.Goals as goal

pub returns : goal.returns
returns g c = lost_writes g.R.CommitRule.protocol g.met.R.CommitRule.block_loss g.met.R.CommitRule.partial_write
    g.met.R.CommitRule.completing_write
