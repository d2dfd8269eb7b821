-- The slots of a flash whose programs wait to become durable.
use Rattle.std.specs.Prelude.{◌≢◌, ℕ, ◌<◌, ◌==◌, Bool, List, length, All}
use Rattle.std.specs.List.{list_any}
use Rattle.tx_types.specs.declared.config.Slot.{Slot}
use Rattle.flash_model.specs.Flash.{Contents, blank, slot_at}

-- a slot is one of these
abbrev pub slots_in : List Slot → ℕ → Bool
slots_in slots k = list_any (λ at. at.0 == k) slots

-- a slot that waits is one of the flash, and was programmed
abbrev pub IsProgrammed : List Contents → Slot → Type 0
IsProgrammed image at = (at.0 < length image) × (slot_at image at.0 ≢ blank)

abbrev pub AreProgrammed : List Contents → List Slot → Type 0
AreProgrammed image waiting = All (IsProgrammed image) waiting
