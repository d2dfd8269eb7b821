-- Any slots may go that no current and no held record needs: the nine laws stay, every current version, and the array.
use Rattle.record_list.proofs.Common.{Protocol, LossLaw, records_of, is_outside}
use Rattle.record_list.specs.Losses.{WrittenSlotLossLaw}
use Rattle.record_list.proofs.OfChanges.Spared.{counted_first}
use Rattle.record_list.proofs.OfChanges.WrittenChange.{written_left}
use Rattle.record_list.proofs.OfChanges.Arrays.{array_left}

pub written_slot_loss : (p : Protocol) → LossLaw p → WrittenSlotLossLaw p
written_slot_loss p law l n shape keep sound scanned spared =
    let kept = written_left p law l n shape keep sound scanned spared in
    record {
      sound = kept.0;
      records = kept.1;
      array = array_left p l n keep sound.records scanned sound.bytes
          (counted_first p (records_of l) n keep (is_outside shape spared.block) spared.counted)
          (kept.1).same_current;
    }
