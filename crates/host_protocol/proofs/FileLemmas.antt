-- How the commands of a file grow, line by line.
use Rattle.host_protocol.proofs.Common.{◌≡◌, ℕ, ◌+◌, ◌-◌, ◌<◌, ◌≤◌, ◌⊎◌, inl, inr, true, false, List, [], ◌∷◌, ◌++◌, length, take, drop, refl, ap, ◌∙◌, arith, Option, Some, None, length-append, entries_in, lines_of, LineError, Bad, Memory}
use Rattle.std.specs.Prelude.{filter, sum_by, IfNone, IfSome}
use Rattle.std.specs.List.{AllZip}
use Rattle.std.specs.Option.{option_to_list}
use Rattle.std.proofs.lemmas.List.{append-nil, take-append-drop}
use Rattle.std.proofs.Math.Seq.{take-length}
use Rattle.std.proofs.lemmas.Bool.{cases_order}
use Rattle.std.proofs.lemmas.List.Elements.{filter-append}
use Rattle.std.proofs.lemmas.List.Sums.{sum_by-append, sum_by_push}
use Rattle.list_lemmas.proofs.Lists.{Next, take_shorter}
use Rattle.list_lemmas.proofs.Pairs.{zip_front, zip_same, zip_push}
use Rattle.host_protocol.specs.Commands.{IsCommand}
use Rattle.host_protocol.specs.Files.{AreCommands, AreGood, IsFile, IsFirstBad, is_command_line}
use Rattle.host_protocol.specs.Reading.{AddsCommand, AddsNone, EndsAt, text_error}
use Rattle.host_protocol.specs.declared.error.TextError.{TextError}
use Rattle.host_protocol.specs.declared.error.TextError.TheVariants as text
use Rattle.host_protocol.specs.declared.command.Command.{Command}
use Rattle.host_protocol.specs.declared.file.TheConstants.{MAX_COMMANDS, MAX_ENTRIES}
use Rattle.host_protocol.proofs.CommandLemmas.{one_command}

-- ---- the lines so far

filter_idle : (lines : List (List ℕ)) (line : List ℕ) → is_command_line line ≡ false →
    filter is_command_line (lines ++ line ∷ []) ≡ filter is_command_line lines
filter_idle lines line h = filter-append is_command_line lines (line ∷ [])
    ∙ rw h (append-nil (filter is_command_line lines))

filter_more : (lines : List (List ℕ)) (line : List ℕ) → is_command_line line ≡ true →
    filter is_command_line (lines ++ line ∷ []) ≡ filter is_command_line lines ++ line ∷ []
filter_more lines line h = filter-append is_command_line lines (line ∷ []) ∙ rw h refl

-- a line, with the command that it has, if it has one
pub add_line : (size : ℕ) (lines : List (List ℕ)) (line : List ℕ) (commands : List Command) (entries_left : ℕ)
    (found : Option Command)
    → IfNone found (is_command_line line ≡ false) → IfSome found (AddsCommand size line (length commands) entries_left)
    → entries_left + sum_by entries_in commands ≡ MAX_ENTRIES → AreCommands size lines commands
    → AreCommands size (lines ++ line ∷ []) (commands ++ option_to_list found)
add_line size lines line commands entries_left None idle adds left good =
    rw append-nil (record {
      all = record { each = rw (filter_idle lines line idle) good.all.each; most_commands = good.all.most_commands };
      most_entries =
          good.most_entries;
    })
add_line size lines line commands entries_left (Some what) idle adds left good = record {
  all = record {
    each = rw (filter_more lines line adds.asks) (zip_push (IsCommand size) (filter is_command_line lines) commands line
        what good.all.each adds.is);
    most_commands = let h = adds.one_more in omega (arith, length-append {A = Command});
  };
  most_entries = let h = adds.within in rw (sum_by_push entries_in commands what) (omega arith);
}

-- a last command with more entries than are left passes a limit
last_past : (size : ℕ) (line : List ℕ) (commands : List Command) (entries_left : ℕ) →
    AddsNone size line (length commands) entries_left
    → entries_left + sum_by entries_in commands ≡ MAX_ENTRIES → (back : List Command) →
    AllZip (IsCommand size) (line ∷ []) back
    → length (commands ++ back) ≤ MAX_COMMANDS → sum_by entries_in (commands ++ back) ≤ MAX_ENTRIES → ⊥
last_past size line commands entries_left none left [] is most entries = absurd is
last_past size line commands entries_left none left (what ∷ []) is most entries =
    let fits : length commands < MAX_COMMANDS = omega (arith, length-append {A = Command}) in
    let past = none.past what is.0 fits in
    let sum = rw (sum_by_push entries_in commands what) at entries in
    omega arith
last_past size line commands entries_left none left (what ∷ more ∷ others) is most entries = absurd is.1

-- a line that has no command with as many entries as are left
pub add_none : (size : ℕ) (lines : List (List ℕ)) (line : List ℕ) (commands : List Command) (entries_left : ℕ)
    → AddsNone size line (length commands) entries_left → entries_left + sum_by entries_in commands ≡ MAX_ENTRIES →
    AreCommands size lines commands
    → (others : List Command) → AreCommands size (lines ++ line ∷ []) others → ⊥
add_none size lines line commands entries_left none left good others all =
    let each = rw (filter_more lines line none.asks) at all.all.each in
    let parts = zip_front (IsCommand size) (filter is_command_line lines) (line ∷ []) others each in
    let before : parts.front ≡ commands = zip_same (IsCommand size) (one_command size)
    (filter is_command_line lines) parts.front commands parts.fronts good.all.each in
    last_past size line commands entries_left none left parts.back parts.backs
    (rw (parts.whole, before) at all.all.most_commands)
    (rw (parts.whole, before) at all.most_entries)

-- ---- the whole file

-- fewer lines of a good front are good
pub good_shorter : (size : ℕ) (bytes : List ℕ) (n m : ℕ) → n ≤ m → AreGood size bytes m → AreGood size bytes n
good_shorter size bytes n m le (commands, good) =
    let all = lines_of bytes in
    let whole : take n all ++ drop n (take m all) ≡ take m all =
    rw (take_shorter n m all le) at (take-append-drop n (take m all)) in
    let each = rw (← whole, filter-append) at good.all.each in
    let parts = zip_front (IsCommand size) (filter is_command_line (take n all))
    (filter is_command_line (drop n (take m all))) commands each in
    let most = rw parts.whole at good.all.most_commands in
    let entries = rw (parts.whole, sum_by-append entries_in parts.front parts.back) at good.most_entries in (
      parts.front,
      record {
        all = record {
          each = parts.fronts;
          most_commands = omega (arith, length-append {A = Command});
        };
        most_entries = omega arith;
      },
    )

-- a file of commands has no bad line
pub file_bad : (size : ℕ) (bytes : List ℕ) (commands : List Command) (n : ℕ) → IsFile size bytes commands →
    IsFirstBad size bytes n → ⊥
file_bad size bytes commands n file bad =
    let all = lines_of bytes in
    bad.bad (good_shorter size bytes n (length all) bad.most (commands, rw (take-length all) file))

-- a file is one list of commands
pub file_same : (size : ℕ) (bytes : List ℕ) (commands others : List Command) → IsFile size bytes commands →
    IsFile size bytes others → commands ≡ others
file_same size bytes commands others a b = zip_same (IsCommand size) (one_command size)
    (filter is_command_line (lines_of bytes)) commands others a.all.each b.all.each

-- a file has one first bad line
pub first_same : (size : ℕ) (bytes : List ℕ) (m n : ℕ) → IsFirstBad size bytes m → IsFirstBad size bytes n → m ≡ n
first_same size bytes m n a b = elim (cases_order m n) [
  | inl same ↦ same
  | inr (inl less) ↦ absurd (a.bad (good_shorter size bytes m (n - 1) (omega arith) b.before))
  | inr (inr more) ↦ absurd (b.bad (good_shorter size bytes n (m - 1) (omega arith) a.before))
]

-- a line without a command that fits behind good ones is the first bad one
pub first_bad : (size : ℕ) (bytes : List ℕ) (i : ℕ) (line : List ℕ) (more : List (List ℕ)) (commands : List Command)
    (entries_left : ℕ)
    → Next (lines_of bytes) i line more → AddsNone size line (length commands) entries_left →
    entries_left + sum_by entries_in commands ≡ MAX_ENTRIES
    → AreCommands size (take i (lines_of bytes)) commands → IsFirstBad size bytes (i + 1)
first_bad size bytes i line more commands entries_left n none left good = record {
  least = omega arith;
  most = let within = n.within in omega arith;
  before = let back : i + 1 - 1 ≡ i = omega arith in rw back (commands, good);
  bad = λ (others, all). add_none size (take i (lines_of bytes)) line commands entries_left none left good others
      (rw n.front at all);
}

-- ---- where the reading ends

pub ends : (size : ℕ) (bytes : List ℕ) (n : ℕ) (e : LineError) → (e ≡ Bad → IsFirstBad size bytes n) →
    EndsAt size bytes (text_error n e)
ends size bytes n Bad h = h refl
ends size bytes n Memory h = tt

pub only_memory : (size : ℕ) (bytes : List ℕ) (e : TextError) (commands : List Command) → EndsAt size bytes e →
    IsFile size bytes commands → e ≡ text.Memory
only_memory size bytes (text.Line n) commands at file = absurd (file_bad size bytes commands n file at)
only_memory size bytes text.Memory commands at file = refl

pub only_first : (size : ℕ) (bytes : List ℕ) (e : TextError) (n : ℕ) → EndsAt size bytes e → IsFirstBad size bytes n →
    (e ≡ text.Line n) ⊎ (e ≡ text.Memory)
only_first size bytes (text.Line m) n at bad = inl (ap (λ k. text.Line k) (first_same size bytes m n at bad))
only_first size bytes text.Memory n at bad = inr refl
