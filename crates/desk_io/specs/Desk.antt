-- What a desk is, and what its calls do.
use Rattle.std.specs.Prelude.{◌≡◌, ℕ, ◌+◌, ◌-◌, ◌^◌, ◌≤◌, nat_le, min, if◌then◌else◌, List, ◌++◌, length, take, Option, None, Some, IfSome, Result, Ok, Err}
use Rattle.std.specs.Prelude.{Vec}
use Rattle.std.specs.Global.{Global}
use Rattle.std.specs.Option.{option_map}
use Rattle.std.specs.Ordering.{nat_cmp}
use Rattle.std.specs.Cmp.Lexicographic.{slice_cmp}
use Rattle.std.specs.FinMap as map
use Rattle.desk_io.specs.declared.desk.LoadError.{LoadError}
use Rattle.desk_io.specs.declared.desk.LoadError.TheVariants as load
use Rattle.desk_io.specs.declared.desk.SinkError.{SinkError}
use Rattle.desk_io.specs.declared.desk.SinkError.TheVariants as sink

-- files: a map from their names to their bytes
abbrev pub Files : Type 0
Files = map.FinMap (slice_cmp nat_cmp) (List ℕ)

-- the bytes of the file of this name, if there is one
abbrev pub file_at : Files → List ℕ → Option (List ℕ)
file_at files name = map.get files name

-- these files, but that the one of this name has these bytes, or is gone
abbrev pub files_with : Files → List ℕ → Option (List ℕ) → Files
files_with files name (Some bytes) = map.insert files name bytes
files_with files name None = map.remove files name

-- What a desk tells: its files, all bytes that were said on it, how many calls it was asked for, and how many of these
-- it made. A call that runs out of memory is asked for and not made.
pub record DeskContents : Type 0 where
  pub files : Files
  pub said : List ℕ
  pub asked : ℕ
  pub calls : ℕ

-- A desk: what it tells, if it does, and how many of its calls failed.
pub record DeskState : Type 0 where
  pub told : Option DeskContents
  pub faults : ℕ

-- a count goes up by one and stands still at the end of its type
abbrev pub counted : ℕ → ℕ
counted n = min (n + 1) (2 ^ 64 - 1)

-- a count rose, or already stood at the end of its type
abbrev pub Rose : ℕ → ℕ → Type 0
Rose before now = counted before ≤ now

-- with one file changed
abbrev pub with_file : List ℕ → Option (List ℕ) → DeskContents → DeskContents
with_file name left c = record c { files = files_with c.files name left }

-- with these bytes said after all others
abbrev pub with_said : List ℕ → DeskContents → DeskContents
with_said bytes c = record c { said = c.said ++ bytes }

-- with nothing changed
abbrev pub as_before : DeskContents → DeskContents
as_before c = c

-- a call more was asked for
abbrev pub once_asked : DeskContents → DeskContents
once_asked c = record c { asked = counted c.asked }

-- a call more was asked for and made, which changed the contents so
abbrev pub called : (DeskContents → DeskContents) → DeskContents → DeskContents
called change c =
    record (change c) { asked = counted (change c).asked; calls = counted (change c).calls }

-- the desk after a call that did not fail and changed its contents so
abbrev pub after_answer : (DeskContents → DeskContents) → DeskState → DeskState
after_answer change desk = record desk { told = option_map (called change) desk.told }

-- the desk after a call that failed and changed its contents so
abbrev pub after_fault : (DeskContents → DeskContents) → DeskState → DeskState
after_fault change desk =
    record { told = option_map (called change) desk.told; faults = counted desk.faults }

-- the desk after a call that ran out of memory: it was asked for, and nothing else has changed
abbrev pub after_memory : DeskState → DeskState
after_memory desk = record desk { told = option_map once_asked desk.told }

-- the most bytes of a file that is loaded
abbrev pub max_file_bytes : ℕ
max_file_bytes = 134217728

-- what a load finds at a name
pub data FileFound : Type 0 where
  Missing : FileFound
  TooLong : FileFound
  Bytes : (bytes : List ℕ) → FileFound

abbrev pub file_found : Option (List ℕ) → FileFound
file_found None = Missing
file_found (Some bytes) = if nat_le (length bytes) max_file_bytes then Bytes bytes else TooLong

abbrev pub IsShort : FileFound → Type 0
IsShort (Bytes bytes) = length bytes ≤ max_file_bytes
IsShort _ = Unit {0}

-- This is at the name, as far as the desk tells; bytes that are found are not too many in any case.
abbrev pub Finds : DeskState → List ℕ → FileFound → Type 0
Finds desk name found =
    IsShort found × IfSome desk.told (λ c. file_found (file_at c.files name) ≡ found)

-- A load changes no file and no text. Its answer is what is at the name, unless it fails or runs out of memory.
abbrev pub Loads : DeskState → DeskState → List ℕ → Result (Vec ℕ Global) LoadError → Type 0
Loads old new name (Ok loaded) =
    Finds old name (Bytes loaded.items) × (new ≡ after_answer as_before old)
Loads old new name (Err load.Missing) = Finds old name Missing × (new ≡ after_answer as_before old)
Loads old new name (Err load.TooLong) = Finds old name TooLong × (new ≡ after_answer as_before old)
Loads old new name (Err load.Failed) = new ≡ after_fault as_before old
Loads old new name (Err load.Memory) = new ≡ after_memory old

-- A save puts the bytes there. After a failure the file is gone or has any bytes.
abbrev pub Saves : DeskState → DeskState → List ℕ → List ℕ → Result (Unit {0}) SinkError → Type 0
Saves old new name bytes (Ok _) = new ≡ after_answer (with_file name (Some bytes)) old
Saves old new name bytes (Err sink.Failed) =
    (left : Option (List ℕ)) × (new ≡ after_fault (with_file name left) old)
Saves old new name bytes (Err sink.Memory) = new ≡ after_memory old

-- A say appends the bytes. After a failure any first part of them was said.
abbrev pub Says : DeskState → DeskState → List ℕ → Result (Unit {0}) SinkError → Type 0
Says old new bytes (Ok _) = new ≡ after_answer (with_said bytes) old
Says old new bytes (Err sink.Failed) = (n : ℕ) × (new ≡ after_fault (with_said (take n bytes)) old)
Says old new bytes (Err sink.Memory) = new ≡ after_memory old
