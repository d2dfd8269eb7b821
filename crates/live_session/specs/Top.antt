-- How a call of the program ends.
use Rattle.std.specs.Prelude.{◌≡◌, ℕ, List, Option, None, Some, IfSome}
use Rattle.program_base.specs.Refusals.{BadWords}
use Rattle.file_flash.specs.FileFlashState.{FileFlashState}
use Rattle.live_session.specs.Endings.{LiveEnding, EndsSo, Refused}
use Rattle.live_session.specs.LineDesk.{LineDeskState}
use Rattle.live_session.specs.Opening.{IsNotOpened, OpensFile, begun}
use Rattle.live_session.specs.Talks.{IsHeld}

-- What a call does before its ending is said: nothing, where the words name no file; it claims the file, once, which is
-- not opened; or it puts the live file of the flash at the name that it claimed, and holds a session on that.
pub data Calls (name : Option (List ℕ)) (old new : LineDeskState) : LiveEnding → Type 0 where
  not_named : name ≡ None → new ≡ old → Calls name old new (Refused BadWords)
  not_opened : (path : List ℕ) → (it : LiveEnding) → name ≡ Some path → IsNotOpened path it old new →
      Calls name old new it
  held : (path : List ℕ) → (flash : FileFlashState) → (it : LiveEnding) → name ≡ Some path →
      IfSome old.told (OpensFile path flash) → IsHeld flash it (begun path flash old).told new.told →
      Calls name old new it

-- There is an ending whose line is said last, where it has one, and whose status is answered; or saying it failed.
abbrev pub Ends : Option (List ℕ) → LineDeskState → LineDeskState → ℕ → Type 0
Ends name old new answer =
    (it : LiveEnding) × (before : LineDeskState) × Calls name old before it × EndsSo it before new answer
