-- What a desk of lines is, and what its calls do.
use Rattle.std.specs.Prelude.{◌≡◌, ℕ, true, List, [], ◌∷◌, ◌++◌, take, Option, None, Some, IfSome, Result, Ok, Err}
use Rattle.std.specs.Option.{option_map}
use Rattle.desk_io.specs.Desk.{counted}
use Rattle.file_flash.specs.Files as store
use Rattle.file_flash.specs.Files.{FileState}
use Rattle.file_flash.specs.FileFlashState.{FileFlashState}
use Rattle.file_flash.specs.Opening.{IsDurable}
use Rattle.live_session.specs.declared.desk.CallError.{CallError}
use Rattle.live_session.specs.declared.desk.CallError.TheVariants as call
use Rattle.live_session.specs.declared.desk.ClaimError.{ClaimError}
use Rattle.live_session.specs.declared.desk.ClaimError.TheVariants as claim
use Rattle.live_session.specs.declared.desk.Next.{Next}
use Rattle.live_session.specs.Lines.{IsNext}

-- A text that was said; and where it is the reply of a command, the flash as it stood when it was said.
pub record Saying : Type 0 where
  pub text : List ℕ
  pub flash : Option FileFlashState

-- what is at a name: nothing, a file with too many bytes, one that another program holds, or one that is free
pub data Place : Type 0 where
  Missing : Place
  TooLong : Place
  Held : Place
  Free : (file : FileState) → Place

-- What a desk tells: what is at each name; the names that were claimed, in order, and the bytes that were to be put at
-- the name that is held, in order, done or not; the bytes of its input that were not read; all that was said, in order;
-- and the flash of the file that was closed last.
pub record DeskTold : Type 0 where
  pub place : List ℕ → Place
  pub claims : List (List ℕ)
  pub puts : List (List ℕ)
  pub input : List ℕ
  pub sayings : List Saying
  pub left : Option FileFlashState

-- A desk: what it tells, if it does, and how many of its calls failed.
pub record LineDeskState : Type 0 where
  pub told : Option DeskTold
  pub faults : ℕ

-- both desks tell, and this holds of what they tell, or neither tells
abbrev pub BothTell : (DeskTold → DeskTold → Type 0) → Option DeskTold → Option DeskTold → Type 0
BothTell P None None = Unit {0}
BothTell P (Some old) (Some new) = P old new
BothTell P None (Some new) = ⊥
BothTell P (Some old) None = ⊥

-- a desk that tells nothing else
abbrev pub closed_desk : ℕ → LineDeskState
closed_desk faults = record { told = None; faults = faults }

abbrev pub with_claim : List ℕ → DeskTold → DeskTold
with_claim name c = record c { claims = c.claims ++ name ∷ [] }

abbrev pub with_put : List ℕ → DeskTold → DeskTold
with_put bytes c = record c { puts = c.puts ++ bytes ∷ [] }

abbrev pub with_input : List ℕ → DeskTold → DeskTold
with_input rest c = record c { input = rest }

abbrev pub with_saying : Saying → DeskTold → DeskTold
with_saying it c = record c { sayings = c.sayings ++ it ∷ [] }

abbrev pub with_left : FileFlashState → DeskTold → DeskTold
with_left flash c = record c { left = Some flash }

-- the desk after a call that changed so what it tells
abbrev pub after : (DeskTold → DeskTold) → LineDeskState → LineDeskState
after change desk = record desk { told = option_map change desk.told }

-- and after one that failed
abbrev pub after_fault : (DeskTold → DeskTold) → LineDeskState → LineDeskState
after_fault change desk = record { told = option_map change desk.told; faults = counted desk.faults }

-- the file at the name is open, as it is told
abbrev pub OpensFree : List ℕ → Option FileState → DeskTold → Type 0
OpensFree name opened c = (file : FileState) × (c.place name ≡ Free file) × (opened ≡ Some file)

-- the desk once the file of this name was claimed
abbrev pub claimed : List ℕ → LineDeskState → LineDeskState
claimed name desk = after (with_claim name) desk

-- A claim is told, whatever comes of it, and nothing else changes.
abbrev pub Claims : {F : Type 0} → (F → Option FileState) → LineDeskState → LineDeskState → List ℕ →
    Result F ClaimError → Type 0
Claims told old new name (Ok file) = (new ≡ claimed name old) × IfSome old.told (OpensFree name (told file))
Claims told old new name (Err claim.Missing) =
    (new ≡ claimed name old) × IfSome old.told (λ c. c.place name ≡ Missing)
Claims told old new name (Err claim.TooLong) =
    (new ≡ claimed name old) × IfSome old.told (λ c. c.place name ≡ TooLong)
Claims told old new name (Err claim.InUse) = (new ≡ claimed name old) × IfSome old.told (λ c. c.place name ≡ Held)
Claims told old new name (Err claim.Failed) = new ≡ after_fault (with_claim name) old
Claims told old new name (Err claim.Memory) = new ≡ claimed name old

-- A file with these bytes takes the place of the one that is held, and is held in its stead: a loss leaves these bytes
-- of it, and no others. It tells if the other one did. That they are to be put there is told, whatever comes of it. A
-- failure is one of the file, and is not counted.
abbrev pub Replaces : (held now : Option FileState) → LineDeskState → LineDeskState → List ℕ →
    Result (Unit {0}) CallError → Type 0
Replaces held now old new bytes (Ok done) =
    (new ≡ after (with_put bytes) old) × store.BothTell (λ before. IsDurable bytes) held now
Replaces held now old new bytes (Err why) = new ≡ after (with_put bytes) old

-- a flash once a call of its file failed, of which a loss may leave this then
abbrev pub with_failure : FileFlashState → Option FileState → FileFlashState
with_failure flash file = record flash { failed = true; faults = counted flash.faults; file = file }

-- A file with these bytes takes the place of that of a flash, so, and is closed. Where that failed so has the flash,
-- since this was a call of its file.
abbrev pub Closes : FileFlashState → LineDeskState → LineDeskState → List ℕ → Result (Unit {0}) CallError → Type 0
Closes flash old new bytes (Ok done) =
    (file : Option FileState) × (new ≡ after (λ c. with_left (record flash { file = file }) (with_put bytes c)) old)
    × store.BothTell (λ before. IsDurable bytes) flash.file file
Closes flash old new bytes (Err call.Failed) =
    (file : Option FileState)
    × (new ≡ after (λ c. with_left (with_failure flash file) (with_put bytes c)) old)
Closes flash old new bytes (Err call.Memory) = new ≡ after (λ c. with_left flash (with_put bytes c)) old

-- a piece of the input is gone, and these are the bytes of its line
abbrev pub TakesNext : Next → (line rest : List ℕ) → DeskTold → Type 0
TakesNext next line rest c = (piece : List ℕ) × (c.input ≡ piece ++ rest) × IsNext next line piece rest

-- The next line is read. After an error any of the input is gone.
abbrev pub ReadsLine : LineDeskState → LineDeskState → List ℕ → Result Next CallError → Type 0
ReadsLine old new line (Ok next) =
    (rest : List ℕ) × (new ≡ after (with_input rest) old) × IfSome old.told (TakesNext next line rest)
ReadsLine old new line (Err call.Failed) = (rest : List ℕ) × (new ≡ after_fault (with_input rest) old)
ReadsLine old new line (Err call.Memory) = (rest : List ℕ) × (new ≡ after (with_input rest) old)

-- A text is said. After a failure any first part of it was. It is no want of memory.
abbrev pub Says : Option FileFlashState → LineDeskState → LineDeskState → List ℕ → Result (Unit {0}) CallError → Type 0
Says flash old new text (Ok done) = new ≡ after (with_saying (record { text = text; flash = flash })) old
Says flash old new text (Err call.Failed) =
    (n : ℕ) × (new ≡ after_fault (with_saying (record { text = take n text; flash = flash })) old)
Says flash old new text (Err call.Memory) = ⊥
