-- What the calls of a desk learn of the disk, and what they leave of it where power is lost.
use Rattle.std.specs.Prelude.{◌≡◌, ℕ, ◌<◌, List, length, Option, None, Some, Result, Ok, Err, Vec}
use Rattle.std.specs.Global.{Global}
use Rattle.std.specs.declared.io.Error.{Error}
use Rattle.durable_folder.specs.Causes.{AtNow}
use Rattle.durable_folder.specs.FolderState.{FolderState, bytes_of, file_of, target}
use Rattle.durable_folder.specs.Histories.{History, Learns, Rests}
use Rattle.durable_folder.specs.Locking.{LeadsToFile}
use Rattle.durable_folder.specs.Ways as ways
use Rattle.desk_io.specs.declared.desk.LoadError.{LoadError}
use Rattle.desk_io.specs.declared.desk.LoadError.TheVariants as load
use Rattle.desk_io.specs.declared.desk.SinkError.{SinkError}
use Rattle.desk_io.specs.Desk.{Bytes, DeskState, FileFound, Finds, Missing, TooLong, max_file_bytes}

-- the name leads to something
abbrev pub LeadsSomewhere : List ℕ → FolderState → Type 0
LeadsSomewhere name s = (file : ℕ) × (file_of s (target s name) ≡ Some file)

-- This is what the name leads to: nothing, or something. Where that is a plain file, these are its bytes, or they are
-- too many.
abbrev pub IsThere : List ℕ → FileFound → FolderState → Type 0
IsThere name Missing s = file_of s (target s name) ≡ None
IsThere name TooLong s =
    LeadsSomewhere name s × ((file : ℕ) → LeadsToFile name file s → max_file_bytes < length (bytes_of s file))
IsThere name (Bytes bytes) s = LeadsSomewhere name s × ((file : ℕ) → LeadsToFile name file s → bytes ≡ bytes_of s file)

-- This is at the name on the disk, where that is told.
abbrev pub FindsOnDisk : Option History → List ℕ → FileFound → Type 0
FindsOnDisk disk name found = AtNow (IsThere name found) disk

-- This is at the name, as far as the desk tells it and as far as it tells its disk.
abbrev pub FindsBoth : DeskState → Option History → List ℕ → FileFound → Type 0
FindsBoth desk disk name found = Finds desk name found × FindsOnDisk disk name found

-- A load changes nothing, and gives what is there.
abbrev pub LoadsOnDisk : List ℕ → Result (Vec ℕ Global) LoadError → Option History → Option History → Type 0
LoadsOnDisk name (Ok loaded) = Learns (IsThere name (Bytes loaded.items))
LoadsOnDisk name (Err load.Missing) = Learns (IsThere name Missing)
LoadsOnDisk name (Err load.TooLong) = Learns (IsThere name TooLong)
LoadsOnDisk name (Err load.Failed) = Rests
LoadsOnDisk name (Err load.Memory) = Rests

-- A save does what durable_folder says of one, after Ok and after any error.
abbrev pub SavesOnDisk : List ℕ → List ℕ → Result (Unit {0}) SinkError → Option History → Option History → Type 0
SavesOnDisk name bytes (Ok done) a b = ways.Saves name bytes (Ok done) a b
SavesOnDisk name bytes (Err why) a b = (error : Error) → ways.Saves name bytes (Err error) a b
