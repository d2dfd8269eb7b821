use Rattle.record_list.proofs.OfChanges.SlotLosses.{written_slot_loss}
use Rattle.judged_records.proofs.OfLaws.SlotLosses.{image_slot_loss}
use Rattle.lost_writes.proofs.Slots.{waiting_slots_lost}
use Rattle.lost_writes.proofs.theorems.waiting_slots_lost.Goals as goal

pub returns : goal.returns
returns g c = waiting_slots_lost g.R.CommitRule.protocol (image_slot_loss g.R.CommitRule.protocol
    (written_slot_loss g.R.CommitRule.protocol g.met.R.CommitRule.block_loss))
