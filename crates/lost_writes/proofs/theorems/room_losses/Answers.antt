use Rattle.lost_writes.proofs.Room.{room_loss}
use Rattle.lost_writes.proofs.theorems.room_losses.Goals as goal

pub returns : goal.returns
returns g c = room_loss g.R.CommitRule.protocol g.met.R.CommitRule.block_loss
