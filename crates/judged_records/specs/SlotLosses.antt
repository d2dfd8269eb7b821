-- Images of which some slots are lost.
use Rattle.std.specs.Prelude.{◌≡◌, ℕ, ◌⊎◌, Bool, true, false, List, length}
use Rattle.tx_types.specs.declared.config.Protocol.{Protocol}
use Rattle.tx_types.specs.declared.config.Shape.{Shape}
use Rattle.tx_types.specs.declared.record.Link.{Link}
use Rattle.tx_types.specs.declared.record.Rec.{Rec}
use Rattle.flash_model.specs.Flash.{Contents, blank, damaged, slot_at}
use Rattle.record_list.specs.Losses.{IsSpared}
use Rattle.judged_records.specs.Images.{records_in, IsSoundImage}
use Rattle.judged_records.specs.ImageChanges.{AsksFor, KeepsLost}

-- each slot that passes the test holds what it held, and each other one is blank or damaged
pub record LosesSlots (keep : ℕ → Bool) (image image' : List Contents) : Type 0 where
  pub slots : length image' ≡ length image
  pub kept : (slot : ℕ) → keep slot ≡ true → slot_at image' slot ≡ slot_at image slot
  pub lost : (slot : ℕ) → keep slot ≡ false →
      (slot_at image' slot ≡ blank) ⊎ (slot_at image' slot ≡ damaged)

-- any slots may go from an image whose records are spared
abbrev pub ImageSlotLossLaw : Protocol → Type 0
ImageSlotLossLaw protocol =
    (logical : ℕ) (shape : Shape) (image image' : List Contents) (keep : ℕ → Bool) →
    IsSoundImage protocol logical shape image →
    LosesSlots keep image image' →
    IsSpared protocol (records_in protocol image) logical shape keep →
    KeepsLost protocol logical shape image image'

-- and a transaction asks then still for its record, where the slot of this is kept
abbrev pub AsksAfterLossLaw : Protocol → Type 0
AsksAfterLossLaw protocol =
    (logical : ℕ) (shape : Shape) (image image' : List Contents) (names : List Link) (at : ℕ)
    (rec : Rec) (keep : ℕ → Bool) →
    AsksFor protocol logical shape image names at rec →
    LosesSlots keep image image' →
    IsSpared protocol (records_in protocol image) logical shape keep →
    keep at ≡ true →
    AsksFor protocol logical shape image' names at rec
