use Rattle.record_list.proofs.OfChanges.LostWrites.{write_after_loss}
use Rattle.record_list.proofs.theorems.writes_outlive_losses.Goals as goal

pub returns : goal.returns
returns c = write_after_loss
