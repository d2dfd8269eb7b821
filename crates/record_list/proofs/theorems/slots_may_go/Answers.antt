use Rattle.record_list.proofs.OfChanges.SlotLosses.{written_slot_loss}
use Rattle.record_list.proofs.theorems.slots_may_go.Goals as goal

pub returns : goal.returns
returns c = written_slot_loss
