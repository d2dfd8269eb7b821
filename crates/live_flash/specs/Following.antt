-- How an image file in its live format follows a flash in memory.
use Rattle.std.specs.Prelude.{◌≡◌, ◌≢◌, ◌⊎◌, ℕ, ◌+◌, ◌<◌, ◌≤◌, true, false, List, [], ◌∷◌, length, take, slice_index, All, Contains, Result, OnOk}
use Rattle.tx_types.specs.Limits.{header_bytes}
use Rattle.tx_types.specs.declared.config.Shape.{Shape}
use Rattle.tx_types.specs.declared.config.Slot.{Slot}
use Rattle.flash_model.specs.Flash.{Contents, blank, slot_at}
use Rattle.file_flash.specs.declared.store.StoreError.{StoreError}
use Rattle.file_flash.specs.Files.{FileState, values_at}
use Rattle.file_flash.specs.Following.{slots_in}
use Rattle.zero_count.specs.Zeros.{erased}
use Rattle.live_image.specs.Slots.{slot_bytes, live_contents, IsCounted}
use Rattle.live_image.specs.Layout.{live_bytes, slot_offset}

-- a file that is as long as that of a flash of this shape, and of which a sync makes durable what was written
pub record IsOpened (shape : Shape) (file : FileState) : Type 0 where
  pub long : length file.values ≡ live_bytes shape
  pub copies : file.copies ≡ false

-- and its header, which is durable
pub record IsLiveFile (shape : Shape) (head : List ℕ) (file : FileState) : Type 0 where
  pub long : length file.values ≡ live_bytes shape
  pub header : (k : ℕ) → k < header_bytes → values_at file k ≡ slice_index head k ∷ []

-- the values that a loss may leave of a byte of a slot
abbrev pub slot_values : Shape → FileState → ℕ → ℕ → List ℕ
slot_values shape file at j = values_at file (slot_offset shape at + j)

-- a loss leaves these bytes of a slot: of each byte one of its values, each byte by itself
pub record LeavesSlot (shape : Shape) (file : FileState) (at : ℕ) (left : List ℕ) : Type 0 where
  pub long : length left ≡ slot_bytes shape.page_bytes
  pub each : (j : ℕ) → j < slot_bytes shape.page_bytes → Contains (slot_values shape file at j) (slice_index left j)

-- bytes of a slot that holds this: those of a blank one are erased, each of them
pub record IsSlot (page_bytes : ℕ) (c : Contents) (slot : List ℕ) : Type 0 where
  pub long : length slot ≡ slot_bytes page_bytes
  pub bytes : All (λ b. b < 256) slot
  pub counts : IsCounted slot
  pub reads : live_contents page_bytes slot ≡ c
  pub empty : c ≡ blank → slot ≡ erased (slot_bytes page_bytes)

-- a slot whose bytes are durable
pub record Holds (shape : Shape) (c : Contents) (file : FileState) (at : ℕ) : Type 0 where
  pub slot : List ℕ
  pub is : IsSlot shape.page_bytes c slot
  pub each : (j : ℕ) → j < slot_bytes shape.page_bytes → slot_values shape file at j ≡ slice_index slot j ∷ []

-- a loss leaves of a slot one or the other, and bytes of a live file
abbrev pub LeavesEither : Shape → Contents → Contents → FileState → ℕ → Type 0
LeavesEither shape old new file at =
    (left : List ℕ) → LeavesSlot shape file at left →
    IsCounted left
    × ((live_contents shape.page_bytes left ≡ old) ⊎ (live_contents shape.page_bytes left ≡ new))

-- A slot that is written and not durable yet: a loss leaves of it what it held before or what it holds, and what is
-- read from now on is what it holds.
pub record IsTurning (shape : Shape) (old new : Contents) (file : FileState) (at : ℕ) : Type 0 where
  pub slot : List ℕ
  pub is : IsSlot shape.page_bytes new slot
  pub newest : (j : ℕ) → j < slot_bytes shape.page_bytes →
      take 1 (slot_values shape file at j) ≡ slice_index slot j ∷ []
  pub left : LeavesEither shape old new file at

-- A write of a slot that holds one thing, so that it holds another: no other slot and no byte of the header is touched,
-- a loss leaves of the slot the one or the other, and where the write is done it turns.
pub record TurnsSlot (shape : Shape) (at : ℕ) (old new : Contents) (result : Result (Unit {0}) StoreError)
    (before after : FileState) : Type 0 where
  pub long : length after.values ≡ length before.values
  pub copies : before.copies ≡ false → after.copies ≡ false
  pub header : (k : ℕ) → k < header_bytes → values_at after k ≡ values_at before k
  pub others : (k j : ℕ) → k ≢ at → j < slot_bytes shape.page_bytes →
      slot_values shape after k j ≡ slot_values shape before k j
  pub either : Holds shape old before at → LeavesEither shape old new after at
  pub turns : Holds shape old before at → OnOk result (IsTurning shape old new after at)

-- The same of a write of slots that follow each other, each of which holds one thing, so that it holds another.
pub record TurnsSlots (shape : Shape) (first count : ℕ) (old new : ℕ → Contents) (result : Result (Unit {0}) StoreError)
    (before after : FileState) : Type 0 where
  pub long : length after.values ≡ length before.values
  pub copies : before.copies ≡ false → after.copies ≡ false
  pub header : (k : ℕ) → k < header_bytes → values_at after k ≡ values_at before k
  pub others : (k j : ℕ) → (k < first) ⊎ (first + count ≤ k) → j < slot_bytes shape.page_bytes →
      slot_values shape after k j ≡ slot_values shape before k j
  pub either : (k : ℕ) → first ≤ k → k < first + count → Holds shape (old k) before k →
      LeavesEither shape (old k) (new k) after k
  pub turns : (k : ℕ) → first ≤ k → k < first + count → Holds shape (old k) before k →
      OnOk result (IsTurning shape (old k) (new k) after k)

-- Each slot of the flash follows: those that were written since the last sync are over blank ones, those that wait are
-- blank in the file still, and all others are durable.
pub record Follows (shape : Shape) (image : List Contents) (written waiting : List Slot) (file : FileState) : Type 0 where
  pub keeps : (k : ℕ) → k < length image → slots_in waiting k ≡ false → slots_in written k ≡ false →
      Holds shape (slot_at image k) file k
  pub waits : (k : ℕ) → k < length image → slots_in waiting k ≡ false → slots_in written k ≡ true →
      IsTurning shape blank (slot_at image k) file k
  pub due : (k : ℕ) → k < length image → slots_in waiting k ≡ true → Holds shape blank file k
