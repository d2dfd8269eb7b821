-- Reading the commands of a file one at a time.
use Rattle.std.specs.Prelude.{◌≡◌, ℕ, ◌+◌, List, [], ◌∷◌, ◌++◌, length, take, drop, sum_by, Option, None, Some, Result, Ok, Err}
use Rattle.std.specs.Option.{option_to_list}
use Rattle.host_protocol.specs.Files.{AreCommands, IsFile, entries_in}
use Rattle.host_protocol.specs.Lines.{lines_of}
use Rattle.host_protocol.specs.Reading.{EndsAt}
use Rattle.host_protocol.specs.declared.command.Command.{Command}
use Rattle.host_protocol.specs.declared.error.TextError.{TextError}
use Rattle.host_protocol.specs.declared.file.TheConstants.{MAX_ENTRIES}
use Rattle.desk_tasks.specs.declared.reading.CommandReader.{CommandReader}

-- So many lines of the bytes were read, and they are these commands, as many as are counted. The rest has the lines
-- behind them, and so many entries are left to its writes.
pub record AreRead (size : ℕ) (bytes : List ℕ) (commands : List Command) (lines : ℕ) (rest : List ℕ)
    (count entries_left : ℕ) : Type 0 where
  pub behind : drop lines (lines_of bytes) ≡ lines_of rest
  pub good : AreCommands size (take lines (lines_of bytes)) commands
  pub counted : count ≡ length commands
  pub left : entries_left + sum_by entries_in commands ≡ MAX_ENTRIES

-- a reader has read these commands of a file
abbrev pub HasRead : List ℕ → List Command → CommandReader → Type 0
HasRead bytes commands r = AreRead r.page_bytes bytes commands r.lines r.rest.now r.commands r.entries_left

-- it goes on by a line, or this line is the first bad one
abbrev pub ReadsLine : ℕ → List ℕ → List Command → Result (Option Command) TextError → CommandReader → Type 0
ReadsLine size bytes commands (Ok found) new = HasRead bytes (commands ++ option_to_list found) new
ReadsLine size bytes commands (Err e) new = EndsAt size bytes e

-- it goes on by a command, or the file ends with those that it has read, or a line is the first bad one
abbrev pub ReadsOn : ℕ → List ℕ → List Command → Result (Option Command) TextError → CommandReader → Type 0
ReadsOn size bytes commands (Ok (Some c)) new = HasRead bytes (commands ++ c ∷ []) new
ReadsOn size bytes commands (Ok None) new = IsFile size bytes commands
ReadsOn size bytes commands (Err e) new = EndsAt size bytes e

-- how many lines it has read, and how many bytes are left
abbrev pub length_of : CommandReader → ℕ
length_of r = r.lines + length r.rest.now
