-- The loss of any slots: what is left of a list, and what a transaction writes to it then.
use Rattle.std.specs.Prelude.{◌≡◌, ℕ, ◌<◌, Bool, true, false, ◌&&◌, List, All, Any, filter}
use Rattle.tx_types.specs.declared.record.Link.{Link}
use Rattle.tx_types.specs.declared.config.Protocol.{Protocol}
use Rattle.tx_types.specs.declared.config.Shape.{Shape}
use Rattle.tx_types.specs.Config.{blocks_of}
use Rattle.record_list.specs.declared.found.Found.{Found}
use Rattle.record_list.specs.Records.{is_present, IsScanned}
use Rattle.record_list.specs.SoundList.{IsSoundList}
use Rattle.record_list.specs.Changes.{IsInserted, IsWrite, left, KeepsCounted, LossKeeps}
use Rattle.record_list.specs.Changes.{PartialWriteKeeps, CompletingWriteKeeps}
use Rattle.record_list.specs.Written.{Written, found_of, records_of, array_of, is_outside, IsSoundWritten}
use Rattle.record_list.specs.ArrayChanges.{TakesTransaction}

-- the records whose slots pass the test, with their bytes
abbrev pub left_written : (ℕ → Bool) → List Written → List Written
left_written keep list = filter (λ w. keep w.slot.0) list

-- a list is spared: outside some block each current and each held record has a slot that passes the test
pub record IsSpared (protocol : Protocol) (list : List Found) (logical : ℕ) (shape : Shape)
    (keep : ℕ → Bool) : Type 0 where
  pub block : ℕ
  pub exists : block < blocks_of shape
  pub counted : KeepsCounted protocol list logical (λ slot. keep slot && is_outside shape block slot)

-- what the loss of slots leaves of a list with bytes: its array too
pub record WrittenLossKeeps (protocol : Protocol) (list list' : List Written) (logical : ℕ)
    (shape : Shape) : Type 0 where
  pub sound : IsSoundWritten protocol list' logical shape
  pub records : LossKeeps protocol (records_of list) (records_of list') logical
  pub array : array_of protocol list' logical ≡ array_of protocol list logical

-- any slots may go from a list that is spared
abbrev pub WrittenSlotLossLaw : Protocol → Type 0
WrittenSlotLossLaw protocol =
    (list : List Written) (logical : ℕ) (shape : Shape) (keep : ℕ → Bool) →
    IsSoundWritten protocol list logical shape →
    IsScanned (records_of list) →
    IsSpared protocol (records_of list) logical shape keep →
    WrittenLossKeeps protocol list (left_written keep list) logical shape

-- a record that stays is a write to what is left, as it was a write to all
abbrev pub WriteAfterLossLaw : Protocol → Type 0
WriteAfterLossLaw protocol =
    (list list' : List Found) (logical : ℕ) (names : List Link) (f : Found) (keep : ℕ → Bool) →
    IsSoundList protocol list logical →
    IsWrite protocol list list' logical names f →
    KeepsCounted protocol list logical keep →
    keep f.slot.0 ≡ true →
    IsWrite protocol (left keep list) (left keep list') logical names f

-- each record of a transaction that is in the list has a slot outside the block
abbrev pub AreOutside : List Found → Shape → ℕ → List Link → Type 0
AreOutside list shape block names =
    All
    (λ name. is_present list name ≡ true →
    is_present (left (is_outside shape block) list) name ≡ true)
    names

-- What a record that a transaction asks for comes to in what is left: a partial write where a name is absent, which
-- leaves the array, and else a completing write, which changes all pages of the transaction at once.
pub record WriteAfterLossKeeps (protocol : Protocol) (list list' : List Written) (logical : ℕ)
    (shape : Shape) (names : List Link) (w : Written) : Type 0 where
  pub sound : IsSoundWritten protocol list' logical shape
  pub partial : Any (λ name. is_present (records_of list') name ≡ false) names →
      PartialWriteKeeps protocol (records_of list) (records_of list') logical names
      × (array_of protocol list' logical ≡ array_of protocol list logical)
  pub completing : All (λ name. is_present (records_of list') name ≡ true) names →
      CompletingWriteKeeps protocol (records_of list) (records_of list') logical names
      × TakesTransaction protocol list list' logical names w

-- A transaction goes on of which any records were lost: its next record is added to what is left of a list that is
-- spared. Outside the same block each record of the transaction has a slot that is there.
abbrev pub LostTransactionLaw : Protocol → Type 0
LostTransactionLaw protocol =
    (list list' : List Written) (logical : ℕ) (shape : Shape) (names : List Link) (w : Written)
    (keep : ℕ → Bool) →
    IsSoundWritten protocol list logical shape →
    IsInserted list w list' →
    IsWrite protocol (records_of list) (records_of list') logical names (found_of w) →
    (spared : IsSpared protocol (records_of list) logical shape keep) →
    keep w.slot.0 ≡ true →
    AreOutside (left keep (records_of list')) shape spared.block names →
    WriteAfterLossKeeps protocol (left_written keep list) (left_written keep list') logical shape names w
