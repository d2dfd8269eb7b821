-- What a folder in memory tells of the calls that were made.
use Rattle.std.specs.Prelude.{◌≡◌, ◌⊎◌, ℕ, ◌+◌, List, [], ◌∷◌, ◌++◌, map, reverse, Option, None, Some, Vec, string_bytes}
use Rattle.std.specs.Global.{Global}
use Rattle.std.specs.IoError.{error_kind}
use Rattle.std.specs.declared.io.Error.{Error}
use Rattle.std.specs.declared.io.ErrorKind.TheVariants as kind
use Rattle.durable_folder.specs.Calls.{Handle}
use Rattle.durable_folder.specs.Counting.{unless_so}
use Rattle.durable_folder.specs.Histories.{Answer, History, Refusal, Sight, Held, Named, Seen, Giving, Leading, Linking, Making, Moving, Opening, Replacing, Setting}
use Rattle.mem_folder.specs.Changes.{state_of}
use Rattle.mem_folder.specs.declared.change.Change.{Change}
use Rattle.mem_folder.specs.declared.glance.Glance.{Glance}
use Rattle.mem_folder.specs.declared.glance.Glance.TheVariants as glance
use Rattle.mem_folder.specs.declared.note.Denied.{Denied}
use Rattle.mem_folder.specs.declared.note.Denied.TheVariants as denied
use Rattle.mem_folder.specs.declared.note.Note.{Note}
use Rattle.mem_folder.specs.declared.files.MemFile.{MemFile}
use Rattle.mem_folder.specs.declared.files.MemPlace.{MemPlace}

-- what was refused, as durable_folder says it
abbrev pub refusal_of : Denied → Refusal
refusal_of (denied.Giving file user group) = Giving file user group
refusal_of (denied.Setting file) = Setting (Some file)
refusal_of (denied.Making name) = Making (string_bytes name)
refusal_of (denied.Moving from to) = Moving (string_bytes from) (string_bytes to)
refusal_of (denied.Opening place) = Opening (string_bytes place)
refusal_of (denied.Leading file) = Leading file
refusal_of (denied.Replacing name) = Replacing (string_bytes name)
refusal_of (denied.Linking name) = Linking (string_bytes name)

abbrev pub refused_by : Option Denied → List Refusal
refused_by None = []
refused_by (Some it) = refusal_of it ∷ []

-- what these refuse, and how many are faults
abbrev pub refusals_in : List Note → List Refusal
refusals_in [] = []
refusals_in (note ∷ notes) = refused_by note.refused ++ refusals_in notes

abbrev pub failures_in : List Note → ℕ
failures_in [] = 0
failures_in (note ∷ notes) = failures_in notes + unless_so note.is_excused

-- what was told of an open file, as durable_folder says it
abbrev pub sight_of : Glance → Sight
sight_of (glance.Held file) = Held (Some file)
sight_of (glance.Named file) = Named (Some file)
sight_of (glance.Seen file) = Seen (Some file)

-- the name of an open folder
abbrev pub place_of : MemPlace → List ℕ
place_of place = string_bytes place.name

-- the names of the folders that were noted, the newest first
abbrev pub unsynced_of : List MemPlace → List (List ℕ)
unsynced_of noted = map place_of (reverse noted)

-- The history of a folder, by the changes until now, those before each call, the newest first, what was answered, the
-- folders of which it was said that they cannot be synced, or may not be opened, and what was told of open files.
abbrev pub history_of : List Change → List (Vec Change Global) → List Note → List MemPlace → List Glance → History
history_of changes befores notes noted glances = record {
  now = state_of changes;
  before = map (λ before. state_of before.items) befores;
  refusals = refusals_in notes;
  failures = failures_in notes;
  unsynced = unsynced_of noted;
  sights = map sight_of glances;
}

-- there is no memory
abbrev pub IsStarved : Error → Type 0
IsStarved error = error_kind error ≡ kind.OutOfMemory

-- The note says what this answer counts as.
pub record IsCountOf (answer : Answer) (note : Note) : Type 0 where
  pub refusals : answer.refusals ≡ refused_by note.refused
  pub failures : answer.failures ≡ unless_so note.is_excused

-- The note has the count of an answer that notes no folder.
pub record IsNoteOf (answer : Answer) (note : Note) : Type 0 where
  pub count : IsCountOf answer note
  pub unsynced : answer.unsynced ≡ []

-- the folders that were noted, and those that the answer notes
abbrev pub AreNoted : Answer → List MemPlace → List MemPlace → Type 0
AreNoted answer old new = unsynced_of new ≡ answer.unsynced ++ unsynced_of old

-- the folder was noted and this is the error that it gave, or there is no memory
abbrev pub Notes : List ℕ → Error → Error → List MemPlace → List MemPlace → Type 0
Notes place error result old new =
    ((result ≡ error) × (unsynced_of new ≡ place ∷ unsynced_of old)) ⊎ (IsStarved result × (new ≡ old))

-- an error that comes by itself, whatever is there
abbrev pub IsFault : Error → Type 0
IsFault error =
    (error_kind error ≡ kind.Other) ⊎ ((error_kind error ≡ kind.ReadOnlyFilesystem) ⊎
    ((error_kind error ≡ kind.PermissionDenied) ⊎ (error_kind error ≡ kind.InvalidInput)))

-- an open file, as a handle
abbrev pub handle_of : MemFile → Handle
handle_of file = record { file = Some file.number; offset = file.offset; is_held = file.is_held }
