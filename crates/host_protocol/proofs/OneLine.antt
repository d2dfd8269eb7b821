-- A file that is one line, without a line feed.
use Rattle.host_protocol.proofs.Common.{◌≡◌, ◌≢◌, ℕ, false, inl, inr, List, [], ◌∷◌, refl, arith, Option, Some, None, position, lines_of, words_of}
use Rattle.std.specs.Prelude.{IfNone, IfSome}
use Rattle.std.specs.Option.{option_to_list}
use Rattle.std.specs.Str.Lines.{strip_carriage_return}
use Rattle.std.proofs.lemmas.Bool.Decides.{eqb_tells}
use Rattle.std.proofs.lemmas.List.Elements.{All-head, All-tail}
use Rattle.list_lemmas.proofs.Lists.{next}
use Rattle.list_lemmas.proofs.Positions.{position-pass}
use Rattle.host_protocol.specs.Files.{AreCommands, IsFile, IsFirstBad, is_command_line}
use Rattle.host_protocol.specs.Lines.{HasNoFeed, is_line_feed}
use Rattle.host_protocol.specs.Reading.{AddsCommand, AddsNone}
use Rattle.host_protocol.specs.declared.command.Command.{Command}
use Rattle.host_protocol.specs.declared.file.TheConstants.{MAX_ENTRIES}
use Rattle.host_protocol.proofs.FileLemmas.{add_line, first_bad}
use Rattle.host_protocol.proofs.LineLemmas.{line_last, lines_none}

not_feed : (b : ℕ) → b ≢ 10 → is_line_feed b ≡ false
not_feed b other = elim (eqb_tells b 10) [ inl h ↦ absurd (other h.1) | inr h ↦ h.0 ]

no_feed : (bytes : List ℕ) → HasNoFeed bytes → position is_line_feed bytes ≡ None
no_feed [] h = refl
no_feed (b ∷ bytes) h = position-pass is_line_feed b bytes (not_feed b (All-head (λ x. x ≢ 10) b bytes h))
    (no_feed bytes (All-tail (λ x. x ≢ 10) b bytes h))

-- no bytes are a blank line
idle_nil : is_command_line [] ≡ false
unfolding words_of
idle_nil = refl

-- the line of the bytes, without a carriage return at its end
one_line : (b : ℕ) (bytes : List ℕ) → HasNoFeed (b ∷ bytes) →
    lines_of (b ∷ bytes) ≡ strip_carriage_return (b ∷ bytes) ∷ []
one_line b bytes h = line_last (b ∷ bytes) (omega arith) (no_feed (b ∷ bytes) h)

no_lines : (size : ℕ) → AreCommands size [] []
no_lines size = record { all = record { each = tt; most_commands = omega arith }; most_entries = omega arith }

-- a line is a file of the command that it has, or of none
pub one_file : (size : ℕ) (bytes : List ℕ) (found : Option Command) → HasNoFeed bytes →
    IfNone found (is_command_line (strip_carriage_return bytes) ≡ false) →
    IfSome found (AddsCommand size (strip_carriage_return bytes) 0 MAX_ENTRIES) →
    IsFile size bytes (option_to_list found)
one_file size [] None h idle adds = rw (lines_none [] refl) (no_lines size)
one_file size [] (Some what) h idle adds = absurd (let no = idle_nil in let yes = adds.asks in cc)
one_file size (b ∷ bytes) found h idle adds = rw (one_line b bytes h)
    (add_line size [] (strip_carriage_return (b ∷ bytes)) [] MAX_ENTRIES found idle adds refl
    (no_lines size))

-- a line without a command that fits is the first bad one
pub one_bad : (size : ℕ) (bytes : List ℕ) → HasNoFeed bytes →
    AddsNone size (strip_carriage_return bytes) 0 MAX_ENTRIES → IsFirstBad size bytes 1
one_bad size [] h none = absurd (let no = idle_nil in let yes = none.asks in cc)
one_bad size (b ∷ bytes) h none =
    let line = strip_carriage_return (b ∷ bytes) in
    first_bad size (b ∷ bytes) 0 line [] [] MAX_ENTRIES (next (lines_of (b ∷ bytes)) 0 line [] (one_line b bytes h))
    none refl (no_lines size)
