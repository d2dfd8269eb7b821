-- What a loss of power leaves of the slots of a file that follows a flash.
use Rattle.std.specs.Prelude.{◌⊎◌, ℕ, ◌<◌, ◌≤◌, List, length}
use Rattle.tx_types.specs.Config.{slots_of}
use Rattle.tx_types.specs.declared.config.Config.{Config}
use Rattle.tx_types.specs.declared.config.Shape.{Shape}
use Rattle.tx_types.specs.declared.config.Slot.{Slot}
use Rattle.flash_model.specs.Flash.{Contents, Extras, slot_at}
use Rattle.file_flash.specs.Files.{FileState, LeavesBytes}
use Rattle.file_flash.specs.Losing.{IsWithout, IsBetween}
use Rattle.live_image.specs.Slots.{IsCounted}
use Rattle.live_image.specs.Layout.{slot_in, live_image}
use Rattle.live_file.specs.Spelling.{IsLive}
use Rattle.live_flash.specs.Following.{Holds, IsTurning}

-- each slot has no more zero bits than its number says, so the file is opened again
abbrev pub AreCounted : Shape → List ℕ → Type 0
AreCounted shape bytes = (k : ℕ) → k < slots_of shape → IsCounted (slot_in shape bytes k)

-- whatever a loss leaves is a live file, of which each slot is as in this image, or is one of these and blank
abbrev pub LosesOnly : Shape → List Contents → List Slot → FileState → Type 0
LosesOnly shape image slots file =
    (left : List ℕ) → LeavesBytes file left → AreCounted shape left × IsWithout image slots (live_image shape left)

-- whatever it leaves, each slot is as in one or the other of two images
abbrev pub LosesBetween : Shape → List Contents → List Contents → FileState → Type 0
LosesBetween shape old new file =
    (left : List ℕ) → LeavesBytes file left → AreCounted shape left × IsBetween old new (live_image shape left)

-- whatever it leaves, no slot has more zero bits than its number says
abbrev pub LeavesCounted : Shape → FileState → Type 0
LeavesCounted shape file = (left : List ℕ) → LeavesBytes file left → AreCounted shape left

-- whatever it leaves is a live file of this device, with the slots that it says
abbrev pub LeavesLive : Config → Shape → Extras → FileState → Type 0
LeavesLive config shape extras file =
    (left : List ℕ) → LeavesBytes file left → IsLive left config (live_image shape left) extras

-- The slots from the first up to another one are written anew and not durable yet, and all others are as before.
pub record AreWrittenAnew (shape : Shape) (old new : List Contents) (first upto : ℕ) (file : FileState) : Type 0 where
  pub inside : (k : ℕ) → k < length old → first ≤ k → k < upto →
      IsTurning shape (slot_at old k) (slot_at new k) file k
  pub outside : (k : ℕ) → k < length old → (k < first) ⊎ (upto ≤ k) → Holds shape (slot_at old k) file k
