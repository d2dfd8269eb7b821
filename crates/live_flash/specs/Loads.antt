-- Slots of programs that are loaded together are different ones.
use Rattle.std.specs.Prelude.{◌≡◌, false, List, [], ◌∷◌, Option, None, Some}
use Rattle.tx_types.specs.declared.config.Slot.{Slot}
use Rattle.file_flash.specs.Following.{slots_in}
use Rattle.file_flash.specs.Loads.{slots_loaded}

-- no slot that is there is there again
abbrev pub AreApart : List (Option Slot) → Type 0
AreApart [] = Unit {0}
AreApart (None ∷ slots) = AreApart slots
AreApart (Some at ∷ slots) = (slots_in (slots_loaded slots) at.0 ≡ false) × AreApart slots
