-- How the file that a name leads to is opened, or why it is not.
use Rattle.std.specs.Prelude.{◌≡◌, ◌⊎◌, ℕ, Bool, true, false, nat_eq, List, [], Option, Result, Ok, Err, Some, IfSome}
use Rattle.std.specs.List.{starts_with}
use Rattle.tx_types.specs.Config.{shape_of}
use Rattle.mem_flash.specs.MemFlashState.{loaded}
use Rattle.image_file.specs.InUse.{IsInUse, broken_in_use}
use Rattle.image_file.specs.Rules.{IsRefusal}
use Rattle.image_file.specs.declared.error.ImageError.TheVariants as image
use Rattle.program_base.specs.Refusals.{BadImage, Missing, TooLong}
use Rattle.file_flash.specs.Files as store
use Rattle.file_flash.specs.Files.{FileState, ReadsFile}
use Rattle.file_flash.specs.FileFlashState.{FileFlashState}
use Rattle.file_flash.specs.Opening.{IsDurable}
use Rattle.live_file.specs.Reading.{RefusesLive}
use Rattle.live_file.specs.Spelling.{IsLive, third_magic}
use Rattle.live_file.specs.declared.error.LiveError.{LiveError}
use Rattle.live_file.specs.declared.error.LiveError.TheVariants as error
use Rattle.live_session.specs.declared.desk.CallError.{CallError}
use Rattle.live_session.specs.declared.desk.CallError.TheVariants as call
use Rattle.live_session.specs.declared.desk.ClaimError.{ClaimError}
use Rattle.live_session.specs.declared.desk.ClaimError.TheVariants as claim
use Rattle.live_session.specs.declared.ending.Ending.{Ending}
use Rattle.live_session.specs.Endings as live
use Rattle.live_session.specs.Endings.{LiveEnding, ending_of}
use Rattle.live_session.specs.LineDesk as desk
use Rattle.live_session.specs.LineDesk.{DeskTold, LineDeskState, Replaces, after, after_fault, claimed, with_claim, with_put}
use Rattle.live_session.specs.Saying.{live_bytes}

-- these bytes are an image file in use of this flash, or a live file of it, which a session left that was cut off
abbrev pub SaysFlash : List ℕ → FileFlashState → Type 0
SaysFlash bytes f =
    IsInUse bytes f.config f.memory.image f.memory.extras ⊎ IsLive bytes f.config f.memory.image f.memory.extras

-- of an open file bytes are read that do
pub record SaysHeld (old : Option FileState) (f : FileFlashState) : Type 0 where
  pub bytes : List ℕ
  pub reads : IfSome old (ReadsFile bytes)
  pub said : SaysFlash bytes f

-- A file is opened: its bytes say this flash, and nothing waits. Its file is now the live file of the flash: a loss
-- leaves that to the byte, so each slot is as it is in memory, and all bytes of a blank one are erased. No call of it
-- has failed then.
pub record Opens (old : Option FileState) (f : FileFlashState) : Type 0 where
  pub says : SaysHeld old f
  pub memory : f.memory ≡ loaded (shape_of f.config) f.memory.image f.memory.extras
  pub waiting : f.waiting ≡ []
  pub failed : f.failed ≡ false
  pub fresh : f.faults ≡ 0
  pub durable : store.BothTell (λ before. IsDurable (live_bytes f)) old f.file

-- Why these bytes say no flash, where they begin as a live file or not. There may have been no memory.
abbrev pub RefusesBytes : List ℕ → Bool → LiveError → Type 0
RefusesBytes bytes true e = RefusesLive bytes e
RefusesBytes bytes false (error.Image rule) = IsRefusal (broken_in_use bytes) rule
RefusesBytes bytes false (error.Count at) = ⊥

-- a file is refused: by the first rule of live files that its bytes break, where they begin as one, or else by the
-- first of image files in use; or for want of memory
pub record RefusesHeld (old : Option FileState) (e : LiveError) : Type 0 where
  pub bytes : List ℕ
  pub reads : IfSome old (ReadsFile bytes)
  pub refusal : RefusesBytes bytes (starts_with nat_eq bytes third_magic) e

-- the file at the name is free, and this holds of it
abbrev pub IsFreeFile : (Option FileState → Type 0) → List ℕ → DeskTold → Type 0
IsFreeFile P name c = (state : FileState) × (c.place name ≡ desk.Free state) × P (Some state)

-- the file at the name is free, and its bytes say this flash
abbrev pub OpensFile : List ℕ → FileFlashState → DeskTold → Type 0
OpensFile name f c = IsFreeFile (λ file. Opens file f) name c

-- the file at the name is free, and breaks this rule first
abbrev pub RefusesFile : List ℕ → LiveError → DeskTold → Type 0
RefusesFile name rule c = IsFreeFile (λ file. RefusesHeld file rule) name c

-- the desk once the file of this name was claimed, and the live file of this flash was to be put there
abbrev pub begun : List ℕ → FileFlashState → LineDeskState → LineDeskState
begun name f old = after (with_put (live_bytes f)) (claimed name old)

-- its bytes said a flash, and its live file was to be put there; and then there was a failure, or no memory
abbrev pub IsBegun : List ℕ → LineDeskState → LineDeskState → Type 0
IsBegun name old new =
    (f : FileFlashState) × (new ≡ begun name f old) × IfSome old.told (IsFreeFile (λ file. SaysHeld file f) name)

-- Why a file is not served. It was claimed once, and no other.
abbrev pub IsNotOpened : List ℕ → LiveEnding → LineDeskState → LineDeskState → Type 0
IsNotOpened name (live.Refused (Missing missing)) old new =
    (missing ≡ name) × (new ≡ claimed name old) × IfSome old.told (λ c. c.place name ≡ desk.Missing)
IsNotOpened name (live.Refused (TooLong long)) old new =
    (long ≡ name) × (new ≡ claimed name old) × IfSome old.told (λ c. c.place name ≡ desk.TooLong)
IsNotOpened name (live.Refused (BadImage rule)) old new =
    (new ≡ claimed name old) × IfSome old.told (RefusesFile name (error.Image rule))
IsNotOpened name (live.BadCount at) old new =
    (new ≡ claimed name old) × IfSome old.told (RefusesFile name (error.Count at))
IsNotOpened name live.InUse old new = (new ≡ claimed name old) × IfSome old.told (λ c. c.place name ≡ desk.Held)
IsNotOpened name live.Fault old new =
    (new ≡ after_fault (with_claim name) old) ⊎ ((new ≡ claimed name old) ⊎ IsBegun name old new)
IsNotOpened name live.Starved old new = (new ≡ claimed name old) ⊎ IsBegun name old new
IsNotOpened name _ old new = ⊥

-- What opening comes to.
abbrev pub OpensFlash : List ℕ → LineDeskState → LineDeskState → Result FileFlashState Ending → Type 0
OpensFlash name old new (Ok f) = (new ≡ begun name f old) × IfSome old.told (OpensFile name f)
OpensFlash name old new (Err why) = IsNotOpened name (ending_of why) old new

-- the same, of a file that is held
abbrev pub IsHeldBegun : Option FileState → LineDeskState → LineDeskState → Type 0
IsHeldBegun file old new = (f : FileFlashState) × (new ≡ after (with_put (live_bytes f)) old) × SaysHeld file f

abbrev pub IsNotBegun : Option FileState → LiveEnding → LineDeskState → LineDeskState → Type 0
IsNotBegun file (live.Refused (BadImage rule)) old new = (new ≡ old) × RefusesHeld file (error.Image rule)
IsNotBegun file (live.BadCount at) old new = (new ≡ old) × RefusesHeld file (error.Count at)
IsNotBegun file live.Fault old new = (new ≡ old) ⊎ IsHeldBegun file old new
IsNotBegun file live.Starved old new = (new ≡ old) ⊎ IsHeldBegun file old new
IsNotBegun file _ old new = ⊥

abbrev pub OpensHeld : Option FileState → LineDeskState → LineDeskState → Result FileFlashState Ending → Type 0
OpensHeld file old new (Ok f) = (new ≡ after (with_put (live_bytes f)) old) × Opens file f
OpensHeld file old new (Err why) = IsNotBegun file (ending_of why) old new

-- a live file was put in the place of a file, or there was no memory for it
abbrev pub PutsLiveFile : (held now : Option FileState) → LineDeskState → LineDeskState → List ℕ →
    Result (Unit {0}) CallError → Type 0
PutsLiveFile held now old new bytes (Ok done) = Replaces held now old new bytes (Ok tt)
PutsLiveFile held now old new bytes (Err why) = (new ≡ old) ⊎ Replaces held now old new bytes (Err why)

-- the ending where a claim fails
abbrev pub ending_of_claim : List ℕ → ClaimError → LiveEnding
ending_of_claim name claim.Missing = live.Refused (Missing name)
ending_of_claim name claim.TooLong = live.Refused (TooLong name)
ending_of_claim name claim.InUse = live.InUse
ending_of_claim name claim.Failed = live.Fault
ending_of_claim name claim.Memory = live.Starved

-- where a file that is held has no flash
abbrev pub ending_of_opening : LiveError → LiveEnding
ending_of_opening (error.Image image.Memory) = live.Starved
ending_of_opening (error.Image rule) = live.Refused (BadImage rule)
ending_of_opening (error.Count at) = live.BadCount at

-- and where no live file took its place
abbrev pub ending_of_put : CallError → LiveEnding
ending_of_put call.Failed = live.Fault
ending_of_put call.Memory = live.Starved
