-- Room for the slots that wait.
use Rattle.std.specs.Prelude.{◌≡◌, ℕ, ◌+◌, ◌*◌, ◌<◌, ◌≤◌, ◌==◌, List, map, nat_eq, count_by, slice_index_or}
use Rattle.std.specs.List.{IsDistinct}
use Rattle.tx_types.specs.Config.{slots_of}
use Rattle.tx_types.specs.declared.config.Shape.{Shape}
use Rattle.tx_types.specs.declared.config.Slot.{Slot}
use Rattle.live_image.specs.Slots.{slot_bytes}

-- there are as many places as slots of the flash, and no slot waits twice
pub record HasRoom (shape : Shape) (capacity : ℕ) (waiting : List Slot) : Type 0 where
  pub places : slots_of shape ≤ capacity
  pub once : IsDistinct nat_eq (map (λ at. at.0) waiting)

abbrev pub no_slot : Slot
no_slot = record { 0 = 0 }

-- how often a slot is among these
abbrev pub times : List Slot → ℕ → ℕ
times slots k = count_by (λ at. at.0 == k) slots

-- none of these is there twice
abbrev pub AreOnce : List Slot → Type 0
AreOnce slots = (k : ℕ) → times slots k ≤ 1

-- so many slots from a place of a list on are in a run: they follow each other
abbrev pub AreInRun : List Slot → ℕ → ℕ → Type 0
AreInRun slots from count =
    (k : ℕ) → k < count →
    (slice_index_or slots (from + k) no_slot).0 ≡ (slice_index_or slots from no_slot).0 + k

-- the bytes of the slots of a block
abbrev pub room_bytes : Shape → ℕ
room_bytes shape = shape.pages_per_block * slot_bytes shape.page_bytes
