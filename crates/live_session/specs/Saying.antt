-- What is durable when something is said.
use Rattle.std.specs.Prelude.{◌≡◌, ◌⊎◌, ℕ, Bool, true, false, List, [], ◌∷◌, ◌++◌, All, IfSome, Some}
use Rattle.image_file.specs.Spelling.{spelling}
use Rattle.file_flash.specs.FileFlashState.{FileFlashState}
use Rattle.file_flash.specs.Losing.{LeavesSpelling}
use Rattle.live_file.specs.Spelling.{live_spelling}
use Rattle.live_flash.specs.Losing.{LosesOnly, LeavesLive}
use Rattle.live_session.specs.LineDesk.{DeskTold, LineDeskState, Saying}
use Rattle.live_session.specs.Endings.{LiveEnding, Closed, BadLine}

-- No call of the file has failed, and whatever a loss of power leaves of it is a live file of the device, each slot of
-- which is as it is in memory.
pub record IsDurable (f : FileFlashState) : Type 0 where
  pub failed : f.failed ≡ false
  pub loses : IfSome f.file (LosesOnly f.memory.shape f.memory.image [])
  pub opens : IfSome f.file (LeavesLive f.config f.memory.shape f.memory.extras)

-- what was done was durable when a reply was said
abbrev pub IsDurableSaying : Saying → Type 0
IsDurableSaying it = IfSome it.flash IsDurable

-- so it was at each reply
abbrev pub SaidDurably : LineDeskState → Type 0
SaidDurably desk = IfSome desk.told (λ c. All IsDurableSaying c.sayings)

-- all of the input was read
abbrev pub HasNoInput : LineDeskState → Type 0
HasNoInput desk = IfSome desk.told (λ c. c.input ≡ [])

-- the bytes of the live file of a flash, and of its image file
abbrev pub live_bytes : FileFlashState → List ℕ
live_bytes f = live_spelling f.config f.memory.image f.memory.extras

abbrev pub image_bytes : FileFlashState → List ℕ
image_bytes f = spelling f.config f.memory.image f.memory.extras

-- the image file of a flash was to be put at its name, too, or nothing was
abbrev pub put_if : Bool → FileFlashState → List (List ℕ) → List (List ℕ)
put_if true f puts = puts ++ image_bytes f ∷ []
put_if false f puts = puts

-- what is told once a file was closed so
abbrev pub with_closed : Bool → FileFlashState → DeskTold → DeskTold
with_closed put f c = record c { puts = put_if put f c.puts; left = Some f }

-- A loss leaves of the file that was closed the image file of its flash, to the byte, and this was put at its name
-- last.
abbrev pub IsSpelledLeft : DeskTold → Type 0
IsSpelledLeft c =
    (f : FileFlashState) × (c.left ≡ Some f) × (f.failed ≡ false)
    × IfSome f.file (LeavesSpelling f.config f.memory.image f.memory.extras)
    × ((before : List (List ℕ)) × (c.puts ≡ before ++ image_bytes f ∷ []))

-- The flash of a file that was closed: where no call of it has failed, a loss leaves its image file, to the byte.
abbrev pub IsClosed : FileFlashState → Type 0
IsClosed f = f.failed ≡ false → IfSome f.file (LeavesSpelling f.config f.memory.image f.memory.extras)

-- the same, or its live file is left, each slot of which is as it is in memory
abbrev pub IsLeft : FileFlashState → Type 0
IsLeft f = IsClosed f ⊎ IsDurable f

-- The input was read to its end, and a loss leaves of the file that was closed its image file, to the byte.
abbrev pub SpellsLeft : LineDeskState → Type 0
SpellsLeft desk = HasNoInput desk × IfSome desk.told IsSpelledLeft

-- the same, where a session ended so that the file was closed
abbrev pub SpellsWhereClosed : LiveEnding → LineDeskState → Type 0
SpellsWhereClosed Closed desk = SpellsLeft desk
SpellsWhereClosed BadLine desk = SpellsLeft desk
SpellsWhereClosed _ desk = Unit {0}
