use Rattle.record_list.proofs.OfChanges.SlotLosses.{written_slot_loss}
use Rattle.judged_records.proofs.OfLaws.SlotLosses.{image_slot_loss}
use Rattle.lost_writes.proofs.Slots.{torn_erase, erase_is_torn, between_is_torn}
use Rattle.lost_writes.proofs.theorems.torn_erase.Goals as goal

pub returns-clause-torn : goal.returns-clause-torn
returns-clause-torn g c = torn_erase g.R.CommitRule.protocol (image_slot_loss g.R.CommitRule.protocol
    (written_slot_loss g.R.CommitRule.protocol g.met.R.CommitRule.block_loss))

pub returns-clause-erase : goal.returns-clause-erase
returns-clause-erase g c = erase_is_torn

pub returns-clause-between : goal.returns-clause-between
returns-clause-between g c = between_is_torn
