-- Images of which some slots wait to be made durable: what a loss of power leaves of one, and which records wait.
use Rattle.std.specs.Prelude.{◌≡◌, ℕ, ◌<◌, ◌⊎◌, Bool, true, false, not, ◌&&◌, List, length}
use Rattle.tx_types.specs.Config.{blocks_of}
use Rattle.tx_types.specs.declared.config.Protocol.{Protocol}
use Rattle.tx_types.specs.declared.config.Shape.{Shape}
use Rattle.tx_types.specs.declared.record.Rec.{Rec}
use Rattle.flash_model.specs.Flash.{Contents, blank, damaged, slot_at, IsImage}
use Rattle.flash_model.specs.Operations.{with_block}
use Rattle.record_list.specs.Changes.{SameCurrent, KeepsCounted}
use Rattle.record_list.specs.Current.{cur, is_held}
use Rattle.record_list.specs.Losses.{IsSpared}
use Rattle.record_list.specs.Written.{is_outside, IsRemovable}
use Rattle.judged_records.specs.Images.{records_in, IsSoundImage}
use Rattle.judged_records.specs.ImageChanges.{KeepsLost}

-- what a loss leaves of an image: each slot is as it was, or waits and is blank
pub record IsLeftOf (waits : ℕ → Bool) (image left : List Contents) : Type 0 where
  pub slots : length left ≡ length image
  pub each : (slot : ℕ) → slot < length image →
      (slot_at left slot ≡ slot_at image slot) ⊎ ((waits slot ≡ true) × (slot_at left slot ≡ blank))

-- what a torn erase leaves of an image: each slot is as it was, or lies in the block and is blank or damaged
pub record IsTornIn (shape : Shape) (block : ℕ) (image left : List Contents) : Type 0 where
  pub slots : length left ≡ length image
  pub each : (slot : ℕ) → slot < length image →
      (slot_at left slot ≡ slot_at image slot)
      ⊎ ((is_outside shape block slot ≡ false) × ((slot_at left slot ≡ blank) ⊎ (slot_at left slot ≡ damaged)))

-- an erase empties its block, or leaves it damaged
abbrev pub EraseIsTorn : Type 0
EraseIsTorn =
    (shape : Shape) (image : List Contents) (block : ℕ) →
    IsImage shape image → block < blocks_of shape →
    IsTornIn shape block image (with_block shape image block blank)
    × IsTornIn shape block image (with_block shape image block damaged)

-- and torn in its turn it leaves each slot as it was before or as it would be
abbrev pub BetweenIsTorn : Type 0
BetweenIsTorn =
    (shape : Shape) (block : ℕ) (old new left : List Contents) →
    length left ≡ length old →
    IsTornIn shape block old new →
    ((slot : ℕ) → slot < length old →
    (slot_at left slot ≡ slot_at old slot) ⊎ (slot_at left slot ≡ slot_at new slot)) →
    IsTornIn shape block old left

-- a slot does not wait
abbrev pub is_durable : (ℕ → Bool) → ℕ → Bool
is_durable waits slot = not (waits slot)

-- a slot does not wait, and lies outside a block
abbrev pub is_spared : (ℕ → Bool) → Shape → ℕ → ℕ → Bool
is_spared waits shape block slot = is_durable waits slot && is_outside shape block slot

-- slots that wait may go from an image that is spared
abbrev pub WaitingLossLaw : Protocol → Type 0
WaitingLossLaw protocol =
    (logical : ℕ) (shape : Shape) (image left : List Contents) (waits : ℕ → Bool) →
    IsSoundImage protocol logical shape image →
    IsLeftOf waits image left →
    IsSpared protocol (records_in protocol image) logical shape (is_durable waits) →
    KeepsLost protocol logical shape image left

-- any slots of a removable block may
abbrev pub TornEraseLaw : Protocol → Type 0
TornEraseLaw protocol =
    (logical : ℕ) (shape : Shape) (image left : List Contents) (block : ℕ) →
    IsSoundImage protocol logical shape image →
    block < blocks_of shape →
    IsRemovable protocol (records_in protocol image) logical shape block →
    IsTornIn shape block image left →
    KeepsLost protocol logical shape image left

-- Since nothing waited only programs were done: each slot that does not wait is as it was, and each that waits was
-- blank. No current version changed. A record that is held was held, or is above the version that was current.
pub record IsSinceFlush (protocol : Protocol) (logical : ℕ) (waits : ℕ → Bool) (flushed image : List Contents) :
    Type 0 where
  pub slots : length image ≡ length flushed
  pub stays : (slot : ℕ) → waits slot ≡ false → slot_at image slot ≡ slot_at flushed slot
  pub was_blank : (slot : ℕ) → waits slot ≡ true → slot_at flushed slot ≡ blank
  pub versions : SameCurrent protocol (records_in protocol flushed) (records_in protocol image) logical
  pub held : (r : Rec) → r.page < logical → is_held protocol (records_in protocol image) logical r ≡ true →
      (is_held protocol (records_in protocol flushed) logical r ≡ true)
      ⊎ (cur protocol (records_in protocol flushed) logical r.page < r.version)

-- outside a block that was removable then each current and each held record has a slot that does not wait
abbrev pub SparedLaw : Protocol → Type 0
SparedLaw protocol =
    (logical : ℕ) (shape : Shape) (flushed image : List Contents) (waits : ℕ → Bool) (block : ℕ) →
    IsSoundImage protocol logical shape flushed →
    IsSoundImage protocol logical shape image →
    IsSinceFlush protocol logical waits flushed image →
    IsRemovable protocol (records_in protocol flushed) logical shape block →
    KeepsCounted protocol (records_in protocol image) logical (is_spared waits shape block)
