-- How a text is said, and what comes of it.
use Rattle.std.specs.Prelude.{◌≡◌, ◌≢◌, ◌⊎◌, ℕ, List, [], ◌∷◌, codes, string_bytes, String, Option, Result, Ok, Err}
use Rattle.std.specs.Global.{Global}
use Rattle.std.specs.Option.{option_map}
use Rattle.std.specs.declared.alloc.AllocError.{AllocError}
use Rattle.desk_io.specs.Desk.{DeskState, Files, Says, after_answer, with_said}
use Rattle.desk_io.specs.declared.desk.SinkError.{SinkError}
use Rattle.desk_io.specs.declared.desk.SinkError.TheVariants as sink
use Rattle.program_base.specs.Refusals.{line}

-- the files of a desk, if it tells them
abbrev pub files_in : DeskState → Option Files
files_in desk = option_map (λ c. c.files) desk.told

-- the desk after a text was said whole; where there is none, nothing is said
abbrev pub after_text : List ℕ → DeskState → DeskState
after_text [] desk = desk
after_text (c ∷ cs) desk = after_answer (with_said (c ∷ cs)) desk

-- A line was tried. What came of it decides nothing.
abbrev pub Attempts : DeskState → DeskState → List ℕ → Type 0
Attempts old new text = (result : Result (Unit {0}) SinkError) × Says old new text result

-- the saying of this text was answered by an error, if there is a text
abbrev pub TextStops : SinkError → List ℕ → DeskState → DeskState → Type 0
TextStops error text old new = (text ≢ []) × Says old new text (Err error)

-- a line was tried after a fault, or for want of memory
abbrev pub FaultTold : DeskState → DeskState → ℕ → Type 0
FaultTold old new answer = (answer ≡ 5) × Attempts old new (line (codes "desk fault"))

abbrev pub MemoryTold : DeskState → DeskState → ℕ → Type 0
MemoryTold old new answer = (answer ≡ 6) × Attempts old new (line (codes "no memory"))

-- A text was said whole, with this status; or the saying failed, or memory ran out.
abbrev pub Speaks : DeskState → DeskState → List ℕ → ℕ → ℕ → Type 0
Speaks old new text status answer =
    ((answer ≡ status) × (new ≡ after_text text old))
    ⊎ (((mid : DeskState) × TextStops sink.Failed text old mid × FaultTold mid new answer)
    ⊎ ((mid : DeskState) × TextStops sink.Memory text old mid × MemoryTold mid new answer))

-- The line of a refusal was said so, with this status; or there was no memory for it.
abbrev pub Refuses : DeskState → DeskState → Result (String Global) AllocError → ℕ → ℕ → Type 0
Refuses old new (Ok text) status answer = Speaks old new (string_bytes text) status answer
Refuses old new (Err none) status answer = MemoryTold old new answer
