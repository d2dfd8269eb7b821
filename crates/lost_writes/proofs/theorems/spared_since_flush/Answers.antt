use Rattle.lost_writes.proofs.Spared.{spared_since_flush}
use Rattle.lost_writes.proofs.theorems.spared_since_flush.Goals as goal

pub returns : goal.returns
returns c = spared_since_flush
