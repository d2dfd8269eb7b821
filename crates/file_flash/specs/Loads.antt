-- The slots of the programs that are loaded in the registers of the dies.
use Rattle.std.specs.Prelude.{◌<◌, List, filter_map, All, Option, IfSome}
use Rattle.tx_types.specs.Config.{slots_of}
use Rattle.tx_types.specs.declared.config.Shape.{Shape}
use Rattle.tx_types.specs.declared.config.Slot.{Slot}

-- the slots that are there, those of lower dies first
abbrev pub slots_loaded : List (Option Slot) → List Slot
slots_loaded slots = filter_map (λ slot. slot) slots

-- a slot that is there is one of the flash
abbrev pub IsLoaded : Shape → Option Slot → Type 0
IsLoaded shape slot = IfSome slot (λ at. at.0 < slots_of shape)

abbrev pub AreLoaded : Shape → List (Option Slot) → Type 0
AreLoaded shape slots = All (IsLoaded shape) slots
