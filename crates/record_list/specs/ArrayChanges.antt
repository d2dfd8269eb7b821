-- What the four changes of a list of records with bytes make of the array that it stands for. The list keeps
-- laws 1 to 7, bytes included.
use Rattle.std.specs.Prelude.{◌≡◌, ◌≢◌, ℕ, ◌<◌, true, false, List, All, Any}
use Rattle.tx_types.specs.declared.record.Link.{Link}
use Rattle.tx_types.specs.declared.config.Protocol.{Protocol}
use Rattle.tx_types.specs.declared.config.Shape.{Shape}
use Rattle.record_list.specs.Records.{is_present, IsScanned}
use Rattle.record_list.specs.SoundList.{IsSoundList}
use Rattle.record_list.specs.Changes.{IsInserted, IsWrite}
use Rattle.record_list.specs.Written.{Written, found_of, records_of, text_of, value_of, value_at, page_at, array_of, BytesAgree, IsRemovable}
use Rattle.record_list.specs.WrittenChanges.{left_outside}

-- a partial write leaves the array
abbrev pub PartialWriteLeavesArray : Protocol → Type 0
PartialWriteLeavesArray protocol =
    (list list' : List Written) (logical : ℕ) (names : List Link) (w : Written) →
    IsSoundList protocol (records_of list) logical →
    All (BytesAgree list) list →
    IsInserted list w list' →
    IsWrite protocol (records_of list) (records_of list') logical names (found_of w) →
    Any (λ name. is_present (records_of list') name ≡ false) names →
    array_of protocol list' logical ≡ array_of protocol list logical

-- the array takes all pages of a transaction at once
pub record TakesTransaction (protocol : Protocol) (list list' : List Written) (logical : ℕ)
    (names : List Link) (w : Written) : Type 0 where
  -- the page of the last record holds what its text says
  pub last : page_at protocol list' logical w.rec.page ≡ value_of (text_of w)
  -- each other page of the transaction holds what its record says, which was present before
  pub earlier :
      All
      (λ name. is_present (records_of list) name ≡ true →
      page_at protocol list' logical name.page ≡ value_at list name)
      names
  -- every other page holds what it held
  pub elsewhere :
      (page : ℕ) → page < logical → All (λ name. name.page ≢ page) names →
      page_at protocol list' logical page ≡ page_at protocol list logical page

-- so does a completing write
abbrev pub CompletingWriteTakesTransaction : Protocol → Type 0
CompletingWriteTakesTransaction protocol =
    (list list' : List Written) (logical : ℕ) (names : List Link) (w : Written) →
    IsSoundList protocol (records_of list) logical →
    All (BytesAgree list) list →
    IsInserted list w list' →
    IsWrite protocol (records_of list) (records_of list') logical names (found_of w) →
    All (λ name. is_present (records_of list') name ≡ true) names →
    TakesTransaction protocol list list' logical names w

-- a copy leaves the array
abbrev pub CopyLeavesArray : Protocol → Type 0
CopyLeavesArray protocol =
    (list list' : List Written) (logical : ℕ) (w : Written) →
    IsSoundList protocol (records_of list) logical →
    All (BytesAgree list) list →
    IsInserted list w list' →
    IsScanned (records_of list) → IsScanned (records_of list') →
    Any (λ v. (v.rec ≡ w.rec) × (v.bytes ≡ w.bytes)) list →
    array_of protocol list' logical ≡ array_of protocol list logical

-- the loss of a removable block leaves the array
abbrev pub BlockLossLeavesArray : Protocol → Type 0
BlockLossLeavesArray protocol =
    (list : List Written) (logical : ℕ) (shape : Shape) (block : ℕ) →
    IsSoundList protocol (records_of list) logical →
    All (BytesAgree list) list →
    IsScanned (records_of list) →
    IsRemovable protocol (records_of list) logical shape block →
    array_of protocol (left_outside shape block list) logical ≡ array_of protocol list logical
