-- The commands of a file, and its first bad line.
use Rattle.std.specs.Prelude.{ℕ, ◌-◌, ◌≤◌, Bool, true, not, ◌==◌, List, [], ◌∷◌, length, take, filter, sum_by, slice_index}
use Rattle.std.specs.List.{AllZip}
use Rattle.host_protocol.specs.Lines.{lines_of, words_of}
use Rattle.host_protocol.specs.Commands.{IsCommand}
use Rattle.host_protocol.specs.declared.command.Command.{Command}
use Rattle.host_protocol.specs.declared.command.Command.TheVariants as command
use Rattle.host_protocol.specs.declared.file.TheConstants.{MAX_COMMANDS, MAX_ENTRIES}

-- words of which there are none, or the first of which begins with `#`
abbrev pub do_nothing : List (List ℕ) → Bool
do_nothing [] = true
do_nothing (word ∷ words) = slice_index word 0 == 35

-- the line is neither blank nor a comment
abbrev pub is_command_line : List ℕ → Bool
is_command_line line = not (do_nothing (words_of line))

-- the entries of a write
abbrev pub entries_in : Command → ℕ
entries_in (command.Write tag batch) = length batch.entries
entries_in _ = 0

-- each line that is neither blank nor a comment is one of these, in order, and no more of them than a file may have
pub record AreLines {A : Type 0} (IsOne : List ℕ → A → Type 0) (lines : List (List ℕ))
    (commands : List A) : Type 0 where
  pub each : AllZip IsOne (filter is_command_line lines) commands
  pub most_commands : length commands ≤ MAX_COMMANDS

-- the lines are these commands, within the limits of a file
pub record AreCommands (page_bytes : ℕ) (lines : List (List ℕ))
    (commands : List Command) : Type 0 where
  pub all : AreLines (IsCommand page_bytes) lines commands
  pub most_entries : sum_by entries_in commands ≤ MAX_ENTRIES

-- the bytes are a file of these commands, for pages of this many bytes
abbrev pub IsFile : ℕ → List ℕ → List Command → Type 0
IsFile page_bytes bytes commands = AreCommands page_bytes (lines_of bytes) commands

-- the first `n` lines of the bytes are some commands, by what it is to be commands
abbrev pub AreGoodLines : {A : Type 0} → (List (List ℕ) → List A → Type 0) → List ℕ → ℕ → Type 0
AreGoodLines {A = A} Are bytes n = (commands : List A) × Are (take n (lines_of bytes)) commands

-- the line of this number, from 1, is the first with which the lines are no commands
pub record IsFirstBadLine {A : Type 0} (Are : List (List ℕ) → List A → Type 0) (bytes : List ℕ)
    (n : ℕ) : Type 0 where
  pub least : 1 ≤ n
  pub most : n ≤ length (lines_of bytes)
  pub before : AreGoodLines Are bytes (n - 1)
  pub bad : ¬ AreGoodLines Are bytes n

-- the first `n` lines of the bytes are commands for pages of this many bytes
abbrev pub AreGood : ℕ → List ℕ → ℕ → Type 0
AreGood page_bytes bytes n = AreGoodLines (AreCommands page_bytes) bytes n

abbrev pub IsFirstBad : ℕ → List ℕ → ℕ → Type 0
IsFirstBad page_bytes bytes n = IsFirstBadLine (AreCommands page_bytes) bytes n
