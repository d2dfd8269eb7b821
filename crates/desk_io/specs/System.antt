-- A desk of the system's files and its output, and what it answers to the system's answers.
use Rattle.std.specs.Prelude.{ℕ, nat_le, if◌then◌else◌, length, None, Result, Ok, Err}
use Rattle.std.specs.IoError.{error_kind}
use Rattle.std.specs.declared.io.Error.{Error}
use Rattle.std.specs.declared.io.ErrorKind.{ErrorKind}
use Rattle.std.specs.declared.io.ErrorKind.TheVariants as kind
use Rattle.desk_io.specs.declared.desk.LoadError.{LoadError}
use Rattle.desk_io.specs.declared.desk.LoadError.TheVariants as load
use Rattle.desk_io.specs.declared.desk.SinkError.{SinkError}
use Rattle.desk_io.specs.declared.desk.SinkError.TheVariants as sink
use Rattle.durable_folder.specs.declared.loading.Loaded.{Loaded}
use Rattle.desk_io.specs.Desk.{DeskState, counted, max_file_bytes}

-- a desk that tells nothing but how many of its calls failed
abbrev pub closed_desk : ℕ → DeskState
closed_desk faults = record { told = None; faults = faults }

-- why a file was not loaded, by the kind of the error
abbrev pub load_error : ErrorKind → LoadError
load_error kind.NotFound = load.Missing
load_error kind.OutOfMemory = load.Memory
load_error _ = load.Failed

-- the answer of a load, after reading a file
abbrev pub load_answer : Result Loaded Error → Result Loaded LoadError
load_answer (Ok file) =
    if nat_le (length file.bytes.items) max_file_bytes then Ok file else Err load.TooLong
load_answer (Err error) = Err (load_error (error_kind error))

-- the answer of a say, after writing: any error is a fault
abbrev pub say_answer : Result (Unit {0}) Error → Result (Unit {0}) SinkError
say_answer (Ok done) = Ok done
say_answer (Err error) = Err sink.Failed

-- why a file was not saved, by the kind of the error
abbrev pub save_error : ErrorKind → SinkError
save_error kind.OutOfMemory = sink.Memory
save_error _ = sink.Failed

-- the answer of a save, after writing
abbrev pub save_answer : Result (Unit {0}) Error → Result (Unit {0}) SinkError
save_answer (Ok done) = Ok done
save_answer (Err error) = Err (save_error (error_kind error))

-- a load that failed is counted, and so is a save or a say
abbrev pub load_faults : {T : Type 0} → Result T LoadError → ℕ → ℕ
load_faults (Err load.Failed) faults = counted faults
load_faults _ faults = faults

abbrev pub sink_faults : Result (Unit {0}) SinkError → ℕ → ℕ
sink_faults (Err sink.Failed) faults = counted faults
sink_faults _ faults = faults
