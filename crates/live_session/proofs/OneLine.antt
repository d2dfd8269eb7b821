-- A line without a line feed has at most one command.
use Rattle.std.proofs.Common.{◌≡◌, ◌≢◌, ℕ, ◌≤◌, Bool, true, false, List, [], ◌∷◌, length, filter, map, refl, arith, cond, inl, inr, All}
use Rattle.std.specs.List.{AllZip, slice_split}
use Rattle.std.specs.Str.Lines.{strip_carriage_return}
use Rattle.std.proofs.lemmas.Bool.Decides.{eqb_tells}
use Rattle.std.proofs.lemmas.List.Elements.{All-head, All-tail}
use Rattle.host_protocol.specs.Commands.{IsCommand}
use Rattle.host_protocol.specs.Files.{IsFile, is_command_line}
use Rattle.host_protocol.specs.Lines.{HasNoFeed, ended_parts, is_line_feed, lines_of}
use Rattle.host_protocol.specs.declared.command.Command.{Command}

not_feed : (b : ℕ) → b ≢ 10 → is_line_feed b ≡ false
not_feed b other = elim (eqb_tells b 10) [ inl h ↦ absurd (other h.1) | inr h ↦ h.0 ]

one_part : (bytes : List ℕ) → All (λ b. b ≢ 10) bytes → slice_split is_line_feed bytes ≡ bytes ∷ []
one_part [] h = refl
one_part (b ∷ bytes) h =
    rw (not_feed b (All-head (λ x. x ≢ 10) b bytes h), one_part bytes (All-tail (λ x. x ≢ 10) b bytes h)) refl

few_parts : (bytes : List ℕ) → length (map strip_carriage_return (ended_parts (bytes ∷ []))) ≤ 1
few_parts [] = omega arith
few_parts (b ∷ bytes) = omega arith

few_lines : (bytes : List ℕ) → HasNoFeed bytes → length (lines_of bytes) ≤ 1
unfolding lines_of
few_lines bytes h = rw (one_part bytes h) (few_parts bytes)

last_one : {A B : Type 0} (R : A → B → Type 0) (line : A) (it : B) (more : List B) (v : Bool) →
    AllZip R (cond v (line ∷ []) []) (it ∷ more) → more ≡ []
last_one R line it [] true h = refl
last_one R line it (next ∷ more) true h = absurd h.1
last_one R line it more false h = absurd h

one_of : (page_bytes : ℕ) (lines : List (List ℕ)) (c : Command) (more : List Command) → length lines ≤ 1 →
    AllZip (IsCommand page_bytes) (filter is_command_line lines) (c ∷ more) → more ≡ []
one_of page_bytes [] c more n h = absurd h
one_of page_bytes (line ∷ []) c more n h = last_one (IsCommand page_bytes) line c more (is_command_line line) h
one_of page_bytes (line ∷ next ∷ lines) c more n h = absurd (omega (arith, n))

pub one_command : (page_bytes : ℕ) (line : List ℕ) (c : Command) (more : List Command) → HasNoFeed line →
    IsFile page_bytes line (c ∷ more) → more ≡ []
one_command page_bytes line c more h file =
    one_of page_bytes (lines_of line) c more (few_lines line h) file.all.each
