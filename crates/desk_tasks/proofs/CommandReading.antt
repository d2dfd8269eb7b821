-- How a reader goes on by a line.
use Rattle.desk_tasks.proofs.Common.{◌≡◌, ℕ, List, [], ◌∷◌, length, take, refl, ◌∙◌, arith, Option, None, Some}
use Rattle.std.proofs.Common.{◌+◌, ◌-◌, ◌++◌, length-append}
use Rattle.std.specs.Prelude.{false, IfNone, IfSome, sum_by}
use Rattle.std.specs.Option.{option_to_list}
use Rattle.std.proofs.lemmas.List.Sums.{sum_by-append}
use Rattle.list_lemmas.proofs.Lists.{next, take_to_end}
use Rattle.host_protocol.specs.Commands.{Suits}
use Rattle.host_protocol.specs.Files.{IsFile, entries_in, is_command_line}
use Rattle.host_protocol.specs.Lines.{lines_of}
use Rattle.host_protocol.specs.Reading.{AddsCommand, AddsNone, EndsAt, text_error}
use Rattle.host_protocol.specs.declared.command.Command.{Command}
use Rattle.host_protocol.specs.declared.error.LineError.{LineError}
use Rattle.host_protocol.specs.declared.error.LineError.TheVariants.{Bad}
use Rattle.host_protocol.specs.declared.file.TheConstants.{MAX_ENTRIES}
use Rattle.host_protocol.proofs.CommandLemmas.{suits}
use Rattle.host_protocol.proofs.FileLemmas.{add_line, ends, first_bad}
use Rattle.desk_tasks.specs.CommandReading.{AreRead}

-- nothing was read
pub none_read : (size : ℕ) (bytes : List ℕ) → AreRead size bytes [] 0 bytes 0 MAX_ENTRIES
none_read size bytes = record {
  behind = refl;
  good = record { all = record { each = tt; most_commands = omega arith }; most_entries = omega arith };
  counted = refl;
  left = refl;
}

-- a line more was read, with its command, if it has one
pub read_line : (size : ℕ) (bytes : List ℕ) (commands : List Command) (lines : ℕ) (rest line behind : List ℕ)
    (count entries_left : ℕ) (found : Option Command) (count_then left_then : ℕ) →
    AreRead size bytes commands lines rest count entries_left → lines_of rest ≡ line ∷ lines_of behind →
    IfNone found (is_command_line line ≡ false) → IfSome found (AddsCommand size line count entries_left) →
    count_then ≡ count + length (option_to_list found) →
    left_then + sum_by entries_in (option_to_list found) ≡ entries_left →
    AreRead size bytes (commands ++ option_to_list found) (lines + 1) behind count_then left_then
read_line size bytes commands lines rest line behind count entries_left found count_then left_then h first idle adds
    counted left =
    let here = next (lines_of bytes) lines line (lines_of behind) (h.behind ∙ first) in
    let before = h.counted in
    let was = h.left in
    record {
      behind = here.behind;
      good = rw here.front (add_line size (take lines (lines_of bytes)) line commands entries_left found idle
          (rw before at adds) was h.good);
      counted = omega (arith, length-append {A = Command});
      left = rw (sum_by-append entries_in commands (option_to_list found)) (omega arith);
    }

-- a line more was read, with its command of so many entries
pub read_command : (size : ℕ) (bytes : List ℕ) (commands : List Command) (lines : ℕ) (rest line behind : List ℕ)
    (count entries_left : ℕ) (c : Command) (entries : ℕ) →
    AreRead size bytes commands lines rest count entries_left → lines_of rest ≡ line ∷ lines_of behind →
    AddsCommand size line count entries_left c → entries ≡ entries_in c →
    AreRead size bytes (commands ++ c ∷ []) (lines + 1) behind (count + 1) (entries_left - entries)
read_command size bytes commands lines rest line behind count entries_left c entries h first adds are =
    let within = adds.within in
    read_line size bytes commands lines rest line behind count entries_left (Some c) (count + 1)
    (entries_left - entries) h first tt adds (omega arith) (omega arith)

-- a blank line or a comment more
pub read_idle : (size : ℕ) (bytes : List ℕ) (commands : List Command) (lines : ℕ) (rest line behind : List ℕ)
    (count entries_left : ℕ) →
    AreRead size bytes commands lines rest count entries_left → lines_of rest ≡ line ∷ lines_of behind →
    is_command_line line ≡ false →
    AreRead size bytes (commands ++ []) (lines + 1) behind count entries_left
read_idle size bytes commands lines rest line behind count entries_left h first idle =
    read_line size bytes commands lines rest line behind count entries_left None count entries_left h first idle tt
    (omega arith) (omega arith)

-- a line that adds no command is the first bad one
pub bad_line : (size : ℕ) (bytes : List ℕ) (commands : List Command) (lines : ℕ) (rest line behind : List ℕ)
    (count entries_left : ℕ) (e : LineError) →
    AreRead size bytes commands lines rest count entries_left → lines_of rest ≡ line ∷ lines_of behind →
    (e ≡ Bad → AddsNone size line count entries_left) → EndsAt size bytes (text_error (lines + 1) e)
bad_line size bytes commands lines rest line behind count entries_left e h first none =
    let before = h.counted in
    ends size bytes (lines + 1) e (λ bad.
    first_bad size bytes lines line (lines_of behind) commands entries_left
    (next (lines_of bytes) lines line (lines_of behind) (h.behind ∙ first)) (rw before at (none bad)) h.left h.good)

-- at the end all lines were read
pub all_read : (size : ℕ) (bytes : List ℕ) (commands : List Command) (lines : ℕ) (rest : List ℕ)
    (count entries_left : ℕ) →
    AreRead size bytes commands lines rest count entries_left → lines_of rest ≡ [] → IsFile size bytes commands
all_read size bytes commands lines rest count entries_left h none =
    rw (take_to_end (lines_of bytes) lines (h.behind ∙ none)) at h.good

-- a command of a line suits the pages
pub line_suits : (size : ℕ) (line : List ℕ) (count entries_left : ℕ) (found : Option Command) →
    IfSome found (AddsCommand size line count entries_left) → IfSome found (Suits size)
line_suits size line count entries_left None adds = tt
line_suits size line count entries_left (Some what) adds = suits size line what adds.is
