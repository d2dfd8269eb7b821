-- The four commit laws of a sound list with bytes: the nine laws of records and bytes stay.
use Rattle.std.specs.Prelude.{◌≡◌, ℕ, ◌<◌, true, false, List, All, Any, filter}
use Rattle.tx_types.specs.declared.record.Link.{Link}
use Rattle.tx_types.specs.declared.config.Protocol.{Protocol}
use Rattle.tx_types.specs.declared.config.Shape.{Shape}
use Rattle.tx_types.specs.Config.{blocks_of}
use Rattle.record_list.specs.declared.found.Found.{Found}
use Rattle.record_list.specs.Records.{is_present, IsScanned}
use Rattle.record_list.specs.Changes.{IsInserted, IsWrite, left, PartialWriteKeeps, CompletingWriteKeeps, CopyKeeps, LossKeeps}
use Rattle.record_list.specs.Written.{Written, found_of, records_of, is_outside, IsRemovable, IsSoundWritten}

abbrev pub WrittenPartialWriteLaw : Protocol → Type 0
WrittenPartialWriteLaw protocol =
    (list list' : List Written) (logical : ℕ) (shape : Shape) (names : List Link) (w : Written) →
    IsSoundWritten protocol list logical shape →
    IsInserted list w list' →
    IsWrite protocol (records_of list) (records_of list') logical names (found_of w) →
    Any (λ name. is_present (records_of list') name ≡ false) names →
    IsSoundWritten protocol list' logical shape
    × PartialWriteKeeps protocol (records_of list) (records_of list') logical names

-- outside some block each current and each held record, and each record of the transaction, has a slot
pub record HasRoomAround (protocol : Protocol) (list list' : List Found) (logical : ℕ)
    (shape : Shape) (names : List Link) : Type 0 where
  pub block : ℕ
  pub exists : block < blocks_of shape
  pub removable : IsRemovable protocol list logical shape block
  pub outside : All (λ name. is_present (left (is_outside shape block) list') name ≡ true) names

abbrev pub WrittenCompletingWriteLaw : Protocol → Type 0
WrittenCompletingWriteLaw protocol =
    (list list' : List Written) (logical : ℕ) (shape : Shape) (names : List Link) (w : Written) →
    IsSoundWritten protocol list logical shape →
    IsInserted list w list' →
    IsWrite protocol (records_of list) (records_of list') logical names (found_of w) →
    All (λ name. is_present (records_of list') name ≡ true) names →
    HasRoomAround protocol (records_of list) (records_of list') logical shape names →
    IsSoundWritten protocol list' logical shape
    × CompletingWriteKeeps protocol (records_of list) (records_of list') logical names

abbrev pub WrittenCopyLaw : Protocol → Type 0
WrittenCopyLaw protocol =
    (list list' : List Written) (logical : ℕ) (shape : Shape) (w : Written) →
    IsSoundWritten protocol list logical shape →
    IsInserted list w list' →
    IsScanned (records_of list) → IsScanned (records_of list') →
    Any (λ v. (v.rec ≡ w.rec) × (v.bytes ≡ w.bytes)) list →
    IsSoundWritten protocol list' logical shape
    × CopyKeeps protocol (records_of list) (records_of list') logical

-- the records outside a block, with their bytes
abbrev pub left_outside : Shape → ℕ → List Written → List Written
left_outside shape block list = filter (λ w. is_outside shape block w.slot.0) list

abbrev pub WrittenLossLaw : Protocol → Type 0
WrittenLossLaw protocol =
    (list : List Written) (logical : ℕ) (shape : Shape) (block : ℕ) →
    IsSoundWritten protocol list logical shape →
    IsScanned (records_of list) →
    block < blocks_of shape →
    IsRemovable protocol (records_of list) logical shape block →
    IsSoundWritten protocol (left_outside shape block list) logical shape
    × LossKeeps protocol (records_of list) (records_of (left_outside shape block list)) logical
