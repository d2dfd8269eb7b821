-- What the changes of an image keep: a partial write, a completing write, a copy, and the loss of a block.
use Rattle.std.specs.Prelude.{◌≡◌, ◌≢◌, ℕ, ◌<◌, true, false, List, length, slice_set, slice_index_or, All, Contains, None, Some}
use Rattle.tx_types.specs.declared.config.Protocol.{Protocol}
use Rattle.tx_types.specs.declared.config.Shape.{Shape}
use Rattle.tx_types.specs.declared.record.Link.{Link}
use Rattle.tx_types.specs.declared.record.Rec.{Rec}
use Rattle.flash_model.specs.Flash.{Contents, blank, complete, slot_at}
use Rattle.page_record.specs.Spelling.{CanBeSpelled, spelling}
use Rattle.record_list.specs.Records.{name_of, is_present}
use Rattle.record_list.specs.Transaction.{IsAsked, InProgress}
use Rattle.record_list.specs.Changes.{NothingMustGo, PartialWriteKeeps, CompletingWriteKeeps, CopyKeeps, LossKeeps}
use Rattle.record_list.specs.Written.{text_at, value_at}
use Rattle.judged_records.specs.Images.{written_in, records_in, array_in, IsSoundImage}

-- the image with a page and its record in a slot
abbrev pub image_with : Protocol → List Contents → ℕ → List ℕ → Rec → List Contents
image_with protocol image at bytes rec = slice_set image at (complete bytes (spelling protocol rec))

-- a transaction in progress among the records of a sound image asks for a record, which is absent and may be
-- programmed in a blank slot
pub record AsksFor
    (protocol : Protocol) (logical : ℕ) (shape : Shape) (image : List Contents)
    (names : List Link) (at : ℕ) (rec : Rec) : Type 0 where
  pub sound : IsSoundImage protocol logical shape image
  pub within : at < length image
  pub blank : slot_at image at ≡ blank
  pub spelled : CanBeSpelled protocol rec
  pub in_progress : InProgress protocol (records_in protocol image) logical names
  pub named : Contains names (name_of rec)
  pub fresh : is_present (records_in protocol image) (name_of rec) ≡ false
  pub asked : IsAsked protocol (records_in protocol image) logical names rec
  pub clear : NothingMustGo protocol (records_in protocol image) logical rec

-- each name that was present has its text still
abbrev pub TextsStay : Protocol → List Contents → List Contents → Type 0
TextsStay protocol image image' =
    (name : Link) → is_present (records_in protocol image) name ≡ true →
    text_at (written_in protocol image') name ≡ text_at (written_in protocol image) name

-- the name of the new record has its flag, and these bytes
abbrev pub TextsCome : Protocol → List Contents → Rec → List ℕ → Type 0
TextsCome protocol image' rec bytes =
    text_at (written_in protocol image') (name_of rec)
    ≡ Some (record { discard = rec.discard; bytes = bytes })

-- what the image with a record more keeps where a name of the transaction stays absent: its array too
pub record KeepsPartial
    (protocol : Protocol) (logical : ℕ) (shape : Shape) (image image' : List Contents)
    (names : List Link) (rec : Rec) (bytes : List ℕ) : Type 0 where
  pub sound : IsSoundImage protocol logical shape image'
  pub records : PartialWriteKeeps protocol (records_in protocol image)
      (records_in protocol image') logical names
  pub array : array_in protocol logical image' ≡ array_in protocol logical image
  pub old_texts : TextsStay protocol image image'
  pub new_text : TextsCome protocol image' rec bytes

-- What it keeps where it completes the cycle. The pages of the transaction hold what its records say, and every other
-- page holds what it held.
pub record KeepsCompleting
    (protocol : Protocol) (logical : ℕ) (shape : Shape) (image image' : List Contents)
    (names : List Link) (rec : Rec) (bytes : List ℕ) : Type 0 where
  pub sound : IsSoundImage protocol logical shape image'
  pub records : CompletingWriteKeeps protocol (records_in protocol image)
      (records_in protocol image') logical names
  pub taken : All (λ name.
      slice_index_or (array_in protocol logical image') name.page None
      ≡ value_at (written_in protocol image') name) names
  pub elsewhere : (page : ℕ) → page < logical → All (λ name. name.page ≢ page) names →
      slice_index_or (array_in protocol logical image') page None
      ≡ slice_index_or (array_in protocol logical image) page None
  pub old_texts : TextsStay protocol image image'
  pub new_text : TextsCome protocol image' rec bytes

-- what the image with a copy more keeps: it has no name that it had not
pub record KeepsCopied (protocol : Protocol) (logical : ℕ) (shape : Shape)
    (image image' : List Contents) : Type 0 where
  pub names : (name : Link) → is_present (records_in protocol image') name ≡ true →
      is_present (records_in protocol image) name ≡ true
  pub sound : IsSoundImage protocol logical shape image'
  pub records : CopyKeeps protocol (records_in protocol image) (records_in protocol image') logical
  pub array : array_in protocol logical image' ≡ array_in protocol logical image
  pub texts : TextsStay protocol image image'

-- what an image without some of its records keeps
pub record KeepsLost (protocol : Protocol) (logical : ℕ) (shape : Shape)
    (image image' : List Contents) : Type 0 where
  pub sound : IsSoundImage protocol logical shape image'
  pub records : LossKeeps protocol (records_in protocol image) (records_in protocol image') logical
  pub array : array_in protocol logical image' ≡ array_in protocol logical image
  pub texts : TextsStay protocol image' image

-- a slot that was blank is damaged: the records are the same, with their bytes
pub record KeepsDamaged (protocol : Protocol) (logical : ℕ) (shape : Shape)
    (image image' : List Contents) : Type 0 where
  pub sound : IsSoundImage protocol logical shape image'
  pub written : written_in protocol image' ≡ written_in protocol image
  pub array : array_in protocol logical image' ≡ array_in protocol logical image
