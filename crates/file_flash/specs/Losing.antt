-- What a loss of power leaves of the slots of a file that follows a flash.
use Rattle.std.specs.Prelude.{◌≡◌, ◌⊎◌, ℕ, ◌<◌, true, List, length}
use Rattle.tx_types.specs.declared.config.Config.{Config}
use Rattle.tx_types.specs.declared.config.Slot.{Slot}
use Rattle.flash_model.specs.Flash.{Contents, Extras, blank, slot_at}
use Rattle.image_file.specs.Spelling.{Spells}
use Rattle.file_flash.specs.Files.{FileState, LeavesBytes}
use Rattle.file_flash.specs.Following.{slots_in}

-- each slot is as in this image, or is one of these and blank
abbrev pub IsWithout : List Contents → List Slot → List Contents → Type 0
IsWithout image slots left =
    (k : ℕ) → k < length image →
    (slot_at left k ≡ slot_at image k) ⊎ ((slots_in slots k ≡ true) × (slot_at left k ≡ blank))

-- each slot is as in one or the other of two images
abbrev pub IsBetween : List Contents → List Contents → List Contents → Type 0
IsBetween old new left =
    (k : ℕ) → k < length old → (slot_at left k ≡ slot_at old k) ⊎ (slot_at left k ≡ slot_at new k)

-- whatever a loss leaves is the image file of these slots
abbrev pub LeavesSpelling : Config → List Contents → Extras → FileState → Type 0
LeavesSpelling config image extras file = (left : List ℕ) → LeavesBytes file left → Spells left config image extras
