-- Programs that complete no transaction: copies, records of transactions that stay open, and programs that were broken.
use Rattle.std.specs.Prelude.{◌≡◌, ℕ, ◌<◌, ◌==◌, ◌⊎◌, Bool, false, List, [], ◌∷◌, length, slice_set, Any}
use Rattle.std.specs.List.{list_any}
use Rattle.tx_types.specs.declared.config.Protocol.{Protocol}
use Rattle.tx_types.specs.declared.config.Shape.{Shape}
use Rattle.tx_types.specs.declared.record.Link.{Link}
use Rattle.tx_types.specs.declared.record.Rec.{Rec}
use Rattle.flash_model.specs.Flash.{Contents, blank, damaged, complete, slot_at}
use Rattle.record_list.specs.Records.{is_present}
use Rattle.judged_records.specs.Images.{records_in, array_in, IsSoundImage}
use Rattle.judged_records.specs.ImageChanges.{image_with, AsksFor}
use Rattle.lost_writes.specs.Waiting.{IsSinceFlush}

-- a record is programmed that its transaction asks for, of which another one is absent yet
pub record IsPartialWrite (protocol : Protocol) (logical : ℕ) (shape : Shape) (at : ℕ)
    (image image' : List Contents) : Type 0 where
  pub names : List Link
  pub rec : Rec
  pub bytes : List ℕ
  pub asks : AsksFor protocol logical shape image names at rec
  pub absent : Any (λ name. is_present (records_in protocol (image_with protocol image at bytes rec)) name ≡ false)
      names
  pub now : image' ≡ image_with protocol image at bytes rec

-- a slot is copied to one that is blank
pub record IsSlotCopy (at : ℕ) (image image' : List Contents) : Type 0 where
  pub from : ℕ
  pub bytes : List ℕ
  pub spare : List ℕ
  pub from_within : from < length image
  pub within : at < length image
  pub source : slot_at image from ≡ complete bytes spare
  pub was_blank : slot_at image at ≡ blank
  pub now : image' ≡ slice_set image at (complete bytes spare)

-- the program of a slot that was blank was broken, and the slot is damaged
pub record IsSlotDamaged (at : ℕ) (image image' : List Contents) : Type 0 where
  pub within : at < length image
  pub was_blank : slot_at image at ≡ blank
  pub now : image' ≡ slice_set image at damaged

-- a program of this slot that completes no transaction
abbrev pub IsQuiet : Protocol → ℕ → Shape → ℕ → List Contents → List Contents → Type 0
IsQuiet protocol logical shape at image image' =
    IsPartialWrite protocol logical shape at image image'
    ⊎ (IsSlotCopy at image image' ⊎ IsSlotDamaged at image image')

-- such programs, one after the other, of these slots
abbrev pub AreQuiet : Protocol → ℕ → Shape → List ℕ → List Contents → List Contents → Type 0
AreQuiet protocol logical shape [] image image' = image' ≡ image
AreQuiet protocol logical shape (at ∷ ats) image image' =
    (mid : List Contents) × IsQuiet protocol logical shape at image mid
    × AreQuiet protocol logical shape ats mid image'

-- a slot is one of these
abbrev pub is_one_of : List ℕ → ℕ → Bool
is_one_of slots slot = list_any (λ at. at == slot) slots

-- what they leave is sound, with the same array, and each of their slots may wait
pub record AreSinceFlush (protocol : Protocol) (logical : ℕ) (shape : Shape) (slots : List ℕ)
    (flushed image : List Contents) : Type 0 where
  pub sound : IsSoundImage protocol logical shape image
  pub array : array_in protocol logical image ≡ array_in protocol logical flushed
  pub since : IsSinceFlush protocol logical (is_one_of slots) flushed image

abbrev pub QuietProgramsLaw : Protocol → Type 0
QuietProgramsLaw protocol =
    (logical : ℕ) (shape : Shape) (slots : List ℕ) (flushed image : List Contents) →
    IsSoundImage protocol logical shape flushed →
    AreQuiet protocol logical shape slots flushed image →
    AreSinceFlush protocol logical shape slots flushed image
