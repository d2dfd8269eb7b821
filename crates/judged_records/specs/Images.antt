-- What an image of a flash stands for: its records, its array of pages, and when it is sound.
use Rattle.std.specs.Prelude.{◌≡◌, ℕ, ◌<◌, ◌⊎◌, List, All, Option, None, IsSomeAnd, filter_map, option_map}
use Rattle.std.specs.List.{enumerate_from}
use Rattle.tx_types.specs.declared.config.Protocol.{Protocol}
use Rattle.tx_types.specs.declared.config.Shape.{Shape}
use Rattle.tx_types.specs.declared.record.Rec.{Rec}
use Rattle.flash_model.specs.Flash.{Contents, blank, damaged, complete, slot_at}
use Rattle.page_record.specs.Rules.{record_of}
use Rattle.record_list.specs.declared.found.Found.{Found}
use Rattle.record_list.specs.declared.found.Breach.{Breach}
use Rattle.record_list.specs.Current.{cur}
use Rattle.record_list.specs.Written.{Written, records_of, array_of, IsSoundWritten, IsLeastWrittenBreach}

-- the record of a slot with its bytes, where the slot is complete and its spare area spells a record for the
-- protocol
abbrev pub written_at : Protocol → ℕ → Contents → Option Written
written_at protocol slot blank = None
written_at protocol slot damaged = None
written_at protocol slot (complete bytes spare) =
    option_map
    (λ rec. record { slot = record { 0 = slot }; rec = rec; bytes = bytes })
    (record_of protocol spare)

-- the records of an image with their bytes, in the order of their slots
unfoldable pub written_in : Protocol → List Contents → List Written
written_in protocol image =
    filter_map (λ (slot, contents). written_at protocol slot contents) (enumerate_from 0 image)

-- the records of an image without their bytes, in the order of their slots
abbrev pub records_in : Protocol → List Contents → List Found
records_in protocol image = records_of (written_in protocol image)

-- the current version of a page in an image, 0 for none
unfoldable pub current_in : Protocol → ℕ → List Contents → ℕ → ℕ
current_in protocol logical image page = cur protocol (records_in protocol image) logical page

-- the array of pages that an image stands for: of each page the bytes of its current record, nothing where it
-- has none or this discards it
unfoldable pub array_in : Protocol → ℕ → List Contents → List (Option (List ℕ))
array_in protocol logical image = array_of protocol (written_in protocol image) logical

-- the page and the link's page of a record exist
abbrev pub HasPages : ℕ → Rec → Type 0
HasPages logical rec = (rec.page < logical) × (rec.next.page < logical)

-- law 1 at a slot: where it is complete, its spare area reads for the protocol, and page and link page
-- exist
abbrev pub SlotReads : Protocol → ℕ → Contents → Type 0
SlotReads protocol logical blank = Unit {0}
SlotReads protocol logical damaged = Unit {0}
SlotReads protocol logical (complete bytes spare) =
    IsSomeAnd (record_of protocol spare) (HasPages logical)

-- a sound image: law 1 holds at each slot, and the nine laws of its records
pub record IsSoundImage (protocol : Protocol) (logical : ℕ) (shape : Shape)
    (image : List Contents) : Type 0 where
  pub reads : All (SlotReads protocol logical) image
  pub written : IsSoundWritten protocol (written_in protocol image) logical shape

-- law 1 is broken, first at this slot
pub record IsFirstUnread (protocol : Protocol) (logical : ℕ) (image : List Contents)
    (b : Breach) : Type 0 where
  pub law : b.law ≡ 1
  pub breaks : SlotReads protocol logical (slot_at image b.slot.0) → ⊥
  pub earlier_slots : (k : ℕ) → k < b.slot.0 → SlotReads protocol logical (slot_at image k)

-- law 1 holds at each slot, and this is the first of the nine laws that the records break, and the slot that
-- it names
pub record IsFirstOfRecords (protocol : Protocol) (logical : ℕ) (shape : Shape)
    (image : List Contents) (b : Breach) : Type 0 where
  pub reads : All (SlotReads protocol logical) image
  pub broken : IsLeastWrittenBreach protocol (written_in protocol image) logical shape b

-- the first of the nine laws that an image breaks, and the slot that it names
abbrev pub IsLeastImageBreach : Protocol → ℕ → Shape → List Contents → Breach → Type 0
IsLeastImageBreach protocol logical shape image b =
    IsFirstUnread protocol logical image b ⊎ IsFirstOfRecords protocol logical shape image b
