-- What the program answers, what it says and saves, and why.
use Rattle.std.specs.Prelude.{◌≡◌, ◌≢◌, ◌⊎◌, ℕ, List, [], codes, Option, None, Some, IsSome, Err}
use Rattle.std.specs.Option.{option_map}
use Rattle.desk_io.specs.Desk.{DeskState, FileFound, Files, Finds, Rose, Saves, after_answer, files_with, with_file}
use Rattle.desk_io.specs.declared.desk.SinkError.{SinkError}
use Rattle.desk_io.specs.declared.desk.SinkError.TheVariants as sink
use Rattle.program_base.specs.Refusals.{line}
use Rattle.program_base.specs.Saying.{Attempts, FaultTold, MemoryTold, Speaks, TextStops, after_text, files_in}
use Rattle.desk_tasks.specs.Ending.{Ending, status}
use Rattle.desk_tasks.specs.Gives.{OutputState, SavedFile, Gives}
use Rattle.desk_tasks.specs.Steps.{IsEnding}
use Rattle.desk_tasks.specs.Request.{Request, files_of, file_of}
use Rattle.desk_tasks.specs.Loads.{LoadFails, WorkRunsOut, after_loads}

-- ---- the desk after the calls that were made of it

-- the desk after a file was saved; where there is none, nothing is saved
abbrev pub after_save : Option SavedFile → DeskState → DeskState
after_save None desk = desk
after_save (Some saved) desk = after_answer (with_file saved.name (Some saved.bytes)) desk

-- an ending of a task, by what is found at a name, how many loads it comes after, and what it gives
pub record Decision (task : Option Request) (finds : List ℕ → FileFound → Type 0) : Type 0 where
  pub ending : Ending
  pub loads : ℕ
  pub given : OutputState
  pub is_ending : IsEnding task finds ending loads
  pub gives : Gives ending given

-- the desk before the saving, and before the saying, of what a decision gives
abbrev pub after_loading : {task : Option Request} {finds : List ℕ → FileFound → Type 0} → DeskState →
    Decision task finds → DeskState
after_loading desk it = after_loads it.loads desk

abbrev pub after_saving : {task : Option Request} {finds : List ℕ → FileFound → Type 0} → DeskState →
    Decision task finds → DeskState
after_saving desk it = after_save it.given.saved (after_loading desk it)

-- ---- how a call fails

-- the saving of this file was answered by an error, if there is a file
abbrev pub FileStops : SinkError → Option SavedFile → DeskState → DeskState → Type 0
FileStops error None old new = ⊥
FileStops error (Some file) old new = Saves old new file.name file.bytes (Err error)

-- A file was saved, if there is one, and then a text was said; or the saving failed, or memory ran
-- out.
abbrev pub Delivers : DeskState → DeskState → OutputState → ℕ → ℕ → Type 0
Delivers old new p status answer =
    Speaks (after_save p.saved old) new p.text status answer
    ⊎ (((mid : DeskState) × FileStops sink.Failed p.saved old mid × FaultTold mid new answer)
    ⊎ ((mid : DeskState) × FileStops sink.Memory p.saved old mid × MemoryTold mid new answer))

-- the saving of what an ending gives was answered by an error
abbrev pub SaveStops : SinkError → (task : Option Request) → DeskState → DeskState → Type 0
SaveStops error task old new =
    (it : Decision task (Finds old)) × FileStops error it.given.saved (after_loading old it) new

-- the saying of an ending's text was answered by an error, after what the ending gives was saved
abbrev pub SayStops : SinkError → (task : Option Request) → DeskState → DeskState → Type 0
SayStops error task old new =
    (it : Decision task (Finds old)) × TextStops error it.given.text (after_saving old it) new

-- a call of the desk failed
abbrev pub CallFails : Option Request → DeskState → DeskState → Type 0
CallFails task old new =
    LoadFails task old new ⊎ (SaveStops sink.Failed task old new ⊎ SayStops sink.Failed task old new)

-- and then a line was tried
abbrev pub IsFaulted : Option Request → DeskState → DeskState → Type 0
IsFaulted task old new =
    (mid : DeskState) × CallFails task old mid × Attempts mid new (line (codes "desk fault"))

-- there was no memory for the line of a refusal
abbrev pub LineStarves : Option Request → DeskState → DeskState → Type 0
LineStarves task old new =
    (it : Decision task (Finds old)) × (status it.ending ≢ 0) × (new ≡ after_loading old it)

-- Memory ran out before an ending was decided, or for its line, or in the saving of what it gives, or
-- in the saying.
abbrev pub RunsOutOfMemory : Option Request → DeskState → DeskState → Type 0
RunsOutOfMemory task old new =
    (WorkRunsOut task old new ⊎ LineStarves task old new)
    ⊎ (SaveStops sink.Memory task old new ⊎ SayStops sink.Memory task old new)

-- and then a line was tried
abbrev pub IsStarved : Option Request → DeskState → DeskState → Type 0
IsStarved task old new =
    (mid : DeskState) × RunsOutOfMemory task old mid × Attempts mid new (line (codes "no memory"))

-- How a call of the program ends, with which status: an ending decided, what it gives was saved, and
-- its text was said whole; or a call of the desk failed; or memory ran out.
pub data EndsCall (task : Option Request) (old new : DeskState) (answer : ℕ) : Type 0 where
  Decided : (it : Decision task (Finds old)) → answer ≡ status it.ending →
      new ≡ after_text it.given.text (after_saving old it) →
      EndsCall task old new answer
  Faulted : answer ≡ 5 → IsFaulted task old new → EndsCall task old new answer
  Starved : answer ≡ 6 → IsStarved task old new → EndsCall task old new answer

-- ---- which status comes

-- the desk tells what the ending of a task hangs on: its files, where the task loads any
abbrev pub TellsEnding : Option Request → DeskState → Type 0
TellsEnding task desk = (files_of task ≡ []) ⊎ IsSome desk.told

-- Where the desk tells it, a task has one ending, which gives its status, unless the desk's count of
-- faults rose or memory ran out.
pub record IsExact (task : Option Request) (old new : DeskState) (answer : ℕ) : Type 0 where
  pub one_ending : (a b : Ending) (m n : ℕ) → TellsEnding task old → IsEnding task (Finds old) a m →
      IsEnding task (Finds old) b n → a ≡ b
  pub ending_gives : (ending : Ending) (loads : ℕ) → IsEnding task (Finds old) ending loads → TellsEnding task old →
      (Rose old.faults new.faults → ⊥) → (answer ≡ status ending) ⊎ (answer ≡ 6)

-- ---- which file changes

-- these files, but for the one of this name
abbrev pub Leaves : Option (List ℕ) → Option Files → Option Files → Type 0
Leaves None old new = new ≡ old
Leaves (Some name) old new =
    (new ≡ old) ⊎
    ((left : Option (List ℕ)) × (new ≡ option_map (λ files. files_with files name left) old))

-- No file changes but the one that a task saves; and none does where the status is a refusal.
pub record LeavesFiles (task : Option Request) (old new : DeskState) (answer : ℕ) : Type 0 where
  pub others : Leaves (file_of task) (files_in old) (files_in new)
  pub refused : (answer ≡ 0 → ⊥) → (answer ≡ 5 → ⊥) → (answer ≡ 6 → ⊥) → files_in new ≡ files_in old
