-- What the program answers and says, and why.
use Rattle.std.specs.Prelude.{◌≡◌, ◌≢◌, ◌⊎◌, ℕ, List, Option, None, Some, Result, Ok, Err, Vec, codes}
use Rattle.std.specs.Global.{Global}
use Rattle.desk_io.specs.Desk.{Bytes, DeskState, Finds, after_answer, after_fault, after_memory, as_before, with_said}
use Rattle.desk_io.specs.declared.desk.SinkError.{SinkError}
use Rattle.desk_io.specs.declared.desk.SinkError.TheVariants as sink
use Rattle.program_base.specs.Refusals.{image_refused, line}
use Rattle.program_base.specs.Saying.{Attempts, TextStops}
use Rattle.program_base.specs.declared.stop.ImageStop.{ImageStop}
use Rattle.program_base.specs.declared.stop.ImageStop.TheVariants as stop
use Rattle.view_command_line.specs.Request.{Request}
use Rattle.view_command_line.specs.Ending.{Ending, Gives, IsEnding, Refused, said, status}

-- the desk after the load that a call asks for
abbrev pub after_load : Option Request → DeskState → DeskState
after_load None desk = desk
after_load (Some a) desk = after_answer as_before desk

-- ---- the work of a call

-- the load of the file failed
abbrev pub LoadFails : Option Request → DeskState → DeskState → Type 0
LoadFails None old new = ⊥
LoadFails (Some a) old new = new ≡ after_fault as_before old

-- memory ran out in the load, or in the work after it, which found the bytes of the file
abbrev pub WorkRunsOut : Option Request → DeskState → DeskState → Type 0
WorkRunsOut None old new = ⊥
WorkRunsOut (Some a) old new =
    (new ≡ after_memory old)
    ⊎ ((bytes : List ℕ) × Finds old a.image (Bytes bytes) × (new ≡ after_answer as_before old))

-- the work that a call asks for gives the text of its ending, or stops
abbrev pub Works : Option Request → DeskState → DeskState → Result (Vec ℕ Global) ImageStop → Type 0
Works task old new (Ok text) = Gives (IsEnding task old) text.items × (new ≡ after_load task old)
Works task old new (Err (stop.Refused refusal)) =
    IsEnding task old (Refused (image_refused refusal)) × (new ≡ after_load task old)
Works task old new (Err stop.Fault) = LoadFails task old new
Works task old new (Err stop.Memory) = WorkRunsOut task old new

-- ---- how a call fails

-- the saying of an ending's text was answered by an error
abbrev pub SayStops : SinkError → Option Request → DeskState → DeskState → Type 0
SayStops error task old new =
    (ending : Ending) × IsEnding task old ending × TextStops error (said ending) (after_load task old) new

-- a call of the desk failed
abbrev pub CallFails : Option Request → DeskState → DeskState → Type 0
CallFails task old new = LoadFails task old new ⊎ SayStops sink.Failed task old new

-- and then a line was tried
abbrev pub IsFaulted : Option Request → DeskState → DeskState → Type 0
IsFaulted task old new =
    (mid : DeskState) × CallFails task old mid × Attempts mid new (line (codes "desk fault"))

-- there was no memory for the line of a refusal
abbrev pub LineStarves : Option Request → DeskState → DeskState → Type 0
LineStarves task old new =
    (ending : Ending) × IsEnding task old ending × (status ending ≢ 0) × (new ≡ after_load task old)

-- memory ran out before an ending was decided, or for its line, or in the saying
abbrev pub RunsOutOfMemory : Option Request → DeskState → DeskState → Type 0
RunsOutOfMemory task old new =
    WorkRunsOut task old new ⊎ (LineStarves task old new ⊎ SayStops sink.Memory task old new)

-- and then a line was tried
abbrev pub IsStarved : Option Request → DeskState → DeskState → Type 0
IsStarved task old new =
    (mid : DeskState) × RunsOutOfMemory task old mid × Attempts mid new (line (codes "no memory"))

-- How a call of the program ends: its ending is said whole, and gives the status; or a call of the desk failed; or
-- memory ran out.
pub data EndsCall (task : Option Request) (old new : DeskState) (answer : ℕ) : Type 0 where
  Decided : (ending : Ending) → IsEnding task old ending → answer ≡ status ending →
      new ≡ after_answer (with_said (said ending)) (after_load task old) → EndsCall task old new answer
  Faulted : answer ≡ 5 → IsFaulted task old new → EndsCall task old new answer
  Starved : answer ≡ 6 → IsStarved task old new → EndsCall task old new answer
