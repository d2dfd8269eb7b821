-- How a call of the program ends, with which status, and the line that is said of it.
use Rattle.std.specs.Prelude.{◌≡◌, ◌⊎◌, ℕ, List, [], ◌++◌, codes, None, Result, Ok, Err, String}
use Rattle.std.specs.Fmt.{decimal}
use Rattle.std.specs.Global.{Global}
use Rattle.std.specs.String.{string_bytes}
use Rattle.std.specs.declared.alloc.AllocError.{AllocError}
use Rattle.tx_types.specs.declared.config.Slot.{Slot}
use Rattle.program_base.specs.Refusals.{ImageEnding, image_line, image_refused, image_status, line}
use Rattle.live_session.specs.declared.desk.CallError.{CallError}
use Rattle.live_session.specs.declared.desk.CallError.TheVariants as call
use Rattle.live_session.specs.declared.ending.Ending.{Ending}
use Rattle.live_session.specs.declared.ending.Ending.TheVariants as ending
use Rattle.live_session.specs.declared.ending.TheConstants.{IN_USE}
use Rattle.live_session.specs.LineDesk.{LineDeskState, Says}

-- The input ended with no bad line, or with one; the file is refused, as a live file of which this slot has more zero
-- bits than its number says, or by another rule; another program holds it; or a call failed, or memory ran out.
pub data LiveEnding : Type 0 where
  Closed : LiveEnding
  BadLine : LiveEnding
  Refused : (why : ImageEnding) → LiveEnding
  BadCount : (at : Slot) → LiveEnding
  InUse : LiveEnding
  Fault : LiveEnding
  Starved : LiveEnding

-- the line that is said of a live file of which the slot of this number has more zero bits than its own number says
abbrev pub count_line : ℕ → List ℕ
count_line at = line (codes "bad image: count " ++ decimal at)

abbrev pub status_of : LiveEnding → ℕ
status_of Closed = 0
status_of BadLine = 4
status_of (Refused why) = image_status why
status_of (BadCount at) = 3
status_of InUse = IN_USE
status_of Fault = 5
status_of Starved = 6

-- the line that is said, if there is one
abbrev pub line_said : LiveEnding → List ℕ
line_said Closed = []
line_said BadLine = []
line_said (Refused why) = image_line why
line_said (BadCount at) = count_line at.0
line_said InUse = line (codes "in use")
line_said Fault = line (codes "desk fault")
line_said Starved = line (codes "no memory")

-- the ending that a value of the program stands for
abbrev pub ending_of : Ending → LiveEnding
ending_of ending.Closed = Closed
ending_of ending.BadLine = BadLine
ending_of (ending.Refused why) = Refused (image_refused why)
ending_of (ending.BadCount at) = BadCount at
ending_of ending.InUse = InUse
ending_of ending.Fault = Fault
ending_of ending.Memory = Starved

-- A line was tried. What came of it decides nothing.
abbrev pub Attempts : LineDeskState → LineDeskState → List ℕ → Type 0
Attempts old new text = (result : Result (Unit {0}) CallError) × Says None old new text result

-- a line was tried after a fault, or for want of memory
abbrev pub FaultTold : LineDeskState → LineDeskState → ℕ → Type 0
FaultTold old new answer = (answer ≡ 5) × Attempts old new (line (codes "desk fault"))

abbrev pub MemoryTold : LineDeskState → LineDeskState → ℕ → Type 0
MemoryTold old new answer = (answer ≡ 6) × Attempts old new (line (codes "no memory"))

-- A line was said whole, with this status; or the saying failed, or memory ran out.
abbrev pub Speaks : LineDeskState → LineDeskState → List ℕ → ℕ → ℕ → Type 0
Speaks old new text status answer =
    ((answer ≡ status) × Says None old new text (Ok tt))
    ⊎ (((mid : LineDeskState) × Says None old mid text (Err call.Failed) × FaultTold mid new answer)
    ⊎ ((mid : LineDeskState) × Says None old mid text (Err call.Memory) × MemoryTold mid new answer))

-- The line of a refusal was said so, with this status; or there was no memory for it.
abbrev pub Refuses : LineDeskState → LineDeskState → Result (String Global) AllocError → ℕ → ℕ → Type 0
Refuses old new (Ok text) status answer = Speaks old new (string_bytes text) status answer
Refuses old new (Err none) status answer = MemoryTold old new answer

-- How an ending is said, and the status that is answered.
abbrev pub EndsSo : LiveEnding → LineDeskState → LineDeskState → ℕ → Type 0
EndsSo Closed old new answer = (answer ≡ 0) × (new ≡ old)
EndsSo BadLine old new answer = (answer ≡ 4) × (new ≡ old)
EndsSo (Refused why) old new answer =
    Speaks old new (image_line why) (image_status why) answer ⊎ MemoryTold old new answer
EndsSo (BadCount at) old new answer = Speaks old new (count_line at.0) 3 answer ⊎ MemoryTold old new answer
EndsSo InUse old new answer = Speaks old new (line_said InUse) IN_USE answer
EndsSo Fault old new answer = FaultTold old new answer
EndsSo Starved old new answer = MemoryTold old new answer
