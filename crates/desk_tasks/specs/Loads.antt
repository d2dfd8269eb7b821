-- The loads of a task: the desk after them, and how far the work came before it was decided.
use Rattle.std.specs.Prelude.{◌≡◌, ◌⊎◌, ℕ, zero, suc, ◌<◌, List, All, length, take, Option}
use Rattle.desk_io.specs.Desk.{Bytes, DeskState, Finds, after_answer, after_fault, after_memory, as_before}
use Rattle.desk_tasks.specs.Request.{Request, IsWorkedAfter, files_of}

-- the desk after so many loads, none of which failed
abbrev pub after_loads : ℕ → DeskState → DeskState
after_loads zero desk = desk
after_loads (suc n) desk = after_answer as_before (after_loads n desk)

-- a load finds bytes at this name
abbrev pub FindsBytes : DeskState → List ℕ → Type 0
FindsBytes desk name = (bytes : List ℕ) × Finds desk name (Bytes bytes)

-- so many loads of a task were made, which found the bytes of its first files
abbrev pub CameThrough : Option Request → DeskState → ℕ → Type 0
CameThrough task desk n = All (FindsBytes desk) (take n (files_of task))

-- a load of these files failed, or memory ran out in it, and those before it found bytes
abbrev pub FailsIn : List (List ℕ) → DeskState → DeskState → Type 0
FailsIn names old new =
    (n : ℕ) × (n < length names) × All (FindsBytes old) (take n names)
    × (new ≡ after_fault as_before (after_loads n old))

abbrev pub StarvesIn : List (List ℕ) → DeskState → DeskState → Type 0
StarvesIn names old new =
    (n : ℕ) × (n < length names) × All (FindsBytes old) (take n names)
    × (new ≡ after_memory (after_loads n old))

-- the same of the files of a task
abbrev pub LoadFails : Option Request → DeskState → DeskState → Type 0
LoadFails task old new = FailsIn (files_of task) old new

abbrev pub LoadStarves : Option Request → DeskState → DeskState → Type 0
LoadStarves task old new = StarvesIn (files_of task) old new

-- memory ran out in a load, or in the work after loads, which found bytes
abbrev pub WorkRunsOut : Option Request → DeskState → DeskState → Type 0
WorkRunsOut task old new =
    LoadStarves task old new
    ⊎ ((n : ℕ) × IsWorkedAfter task n × CameThrough task old n × (new ≡ after_loads n old))
