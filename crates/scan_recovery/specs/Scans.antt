-- What a scan of a flash finds.
use Rattle.std.specs.Prelude.{◌≡◌, ℕ, List, map, All, Option, None, Some, IsSomeAnd}
use Rattle.tx_types.specs.declared.config.Protocol.{Protocol}
use Rattle.tx_types.specs.declared.record.Rec.{Rec}
use Rattle.flash_model.specs.declared.flash.Seen.{Seen}
use Rattle.tx_types.specs.Config.{slots_of}
use Rattle.flash_model.specs.Flash.{Contents, FlashState}
use Rattle.flash_model.specs.Calls.{seen_of}
use Rattle.page_record.specs.Rules.{record_of}
use Rattle.record_list.specs.declared.found.Found.{Found}
use Rattle.judged_records.specs.declared.note.Note.{Note}
use Rattle.judged_records.specs.Images.{HasPages, SlotReads, records_in}
use Rattle.judged_records.specs.Notes.{note_of}
use Rattle.scan_recovery.specs.Reading.{ReadsAll}

-- the record of a spare area whose pages exist; nothing where there is none
abbrev pub IsKeptRecord : Protocol → ℕ → List ℕ → Option Rec → Type 0
IsKeptRecord protocol logical spare None =
    IsSomeAnd (record_of protocol spare) (HasPages logical) → ⊥
IsKeptRecord protocol logical spare (Some rec) =
    (record_of protocol spare ≡ Some rec) × HasPages logical rec

-- what is noted of a slot that keeps law 1; nothing where it breaks it
abbrev pub IsNote : Protocol → ℕ → Contents → Option Note → Type 0
IsNote protocol logical contents None = SlotReads protocol logical contents → ⊥
IsNote protocol logical contents (Some note) =
    SlotReads protocol logical contents × (note ≡ note_of protocol contents)

-- each slot of an image keeps law 1; these are how its slots read, and its records
pub record IsScanOf
    (protocol : Protocol) (logical : ℕ) (image : List Contents) (slots : List Seen)
    (list : List Found) : Type 0 where
  pub reads : All (SlotReads protocol logical) image
  pub seen : slots ≡ map seen_of image
  pub records : list ≡ records_in protocol image

-- each slot was read once, and these are the records of a scan
pub record WasScanned
    (protocol : Protocol) (logical : ℕ) (old new : FlashState) (list : List Found) : Type 0 where
  pub slots : List Seen
  pub scan : IsScanOf protocol logical old.image slots list
  pub read : ReadsAll old new (slots_of old.shape)
