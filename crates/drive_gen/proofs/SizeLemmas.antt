-- How long lines and words are, together.
use Rattle.drive_gen.proofs.Common.{◌≡◌, ℕ, suc, ◌+◌, ◌<◌, ◌≤◌, Bool, true, false, cond, List, [], ◌∷◌, length, refl, arith, map, lines_of, words_of}
use Rattle.std.proofs.Common.{get_or, take, ◌-◌, ◌==◌, ◌⊎◌, inl, inr}
use Rattle.std.proofs.Common.{slice_index}
use Rattle.std.specs.List.{slice_split, onto_first, sum_by, filter}
use Rattle.std.specs.Str.Lines.{strip_carriage_return}
use Rattle.std.proofs.lemmas.Bool.{cases_lt}
use Rattle.std.proofs.lemmas.List.{get_or_past, length-take}
use Rattle.std.proofs.lemmas.List.Sums.{sum_by-cons, get_or-le-sum_by}
use Rattle.host_protocol.specs.Lines.{ended_parts, has_bytes, is_space_or_tab, is_line_feed}

-- the bytes of a part, and the one behind it
abbrev pub size : List ℕ → ℕ
size part = length part + 1

abbrev pub sizes : List (List ℕ) → ℕ
sizes parts = sum_by size parts

pub sizes-cons : (part : List ℕ) (parts : List (List ℕ)) → sizes (part ∷ parts) ≡ size part + sizes parts
sizes-cons part parts = sum_by-cons size part parts

onto_size : (b : ℕ) (parts : List (List ℕ)) (n : ℕ) → sizes parts ≡ n + 1 → sizes (onto_first b parts) ≡ suc n + 1
onto_size b [] n h = absurd (omega arith)
onto_size b (part ∷ parts) n h =
    let old = sizes-cons part parts in
    let new = sizes-cons (b ∷ part) parts in
    omega arith

split_case : (p : ℕ → Bool) (b : ℕ) (bs : List ℕ) (v : Bool) → sizes (slice_split p bs) ≡ length bs + 1
    → sizes (cond v ([] ∷ slice_split p bs) (onto_first b (slice_split p bs))) ≡ suc (length bs) + 1
split_case p b bs true h = let e = sizes-cons [] (slice_split p bs) in omega arith
split_case p b bs false h = onto_size b (slice_split p bs) (length bs) h

-- the parts of a list have its bytes
pub split_size : (p : ℕ → Bool) (bs : List ℕ) → sizes (slice_split p bs) ≡ length bs + 1
split_size p [] = refl
split_size p (b ∷ bs) = split_case p b bs (p b) (split_size p bs)

last_size : (part : List ℕ) (v : Bool) → sizes (cond v (part ∷ []) []) ≤ sizes (part ∷ [])
last_size part true = omega arith
last_size part false = omega arith

ended_size : (parts : List (List ℕ)) → sizes (ended_parts parts) ≤ sizes parts
ended_size [] = omega arith
ended_size (part ∷ []) = last_size part (has_bytes part)
ended_size (part ∷ next ∷ parts) =
    let old = sizes-cons part (next ∷ parts) in
    let new = sizes-cons part (ended_parts (next ∷ parts)) in
    let rest = ended_size (next ∷ parts) in
    omega arith

strip_case : (line : List ℕ) (v : Bool) → length (cond v (take (length line - 1) line) line) ≤ length line
strip_case line true = omega (arith, length-take {A = ℕ})
strip_case line false = omega arith

strip_size : (line : List ℕ) → length (strip_carriage_return line) ≤ length line
strip_size line = strip_case line (slice_index line (length line - 1) == 13)

stripped_size : (parts : List (List ℕ)) → sizes (map strip_carriage_return parts) ≤ sizes parts
stripped_size [] = omega arith
stripped_size (part ∷ parts) =
    let old = sizes-cons part parts in
    let new = sizes-cons (strip_carriage_return part) (map strip_carriage_return parts) in
    let here = strip_size part in
    let rest = stripped_size parts in
    omega arith

-- the lines of bytes have no more than these
pub lines_size : (bytes : List ℕ) → sizes (lines_of bytes) ≤ length bytes + 1
unfolding lines_of
lines_size bytes =
    let parts = slice_split is_line_feed bytes in
    let all = split_size is_line_feed bytes in
    let ended = ended_size parts in
    let stripped = stripped_size (ended_parts parts) in
    omega arith

kept_case : (part : List ℕ) (v : Bool) (kept parts : List (List ℕ)) → sizes kept ≤ sizes parts →
    sizes (cond v (part ∷ kept) kept) ≤ sizes (part ∷ parts)
kept_case part true kept parts h =
    let old = sizes-cons part parts in
    let new = sizes-cons part kept in
    omega arith
kept_case part false kept parts h = let old = sizes-cons part parts in omega arith

kept_size : (p : List ℕ → Bool) (parts : List (List ℕ)) → sizes (filter p parts) ≤ sizes parts
kept_size p [] = omega arith
kept_size p (part ∷ parts) = kept_case part (p part) (filter p parts) parts (kept_size p parts)

words_size : (line : List ℕ) → sizes (words_of line) ≤ length line + 1
unfolding words_of
words_size line =
    let all = split_size is_space_or_tab line in
    let kept = kept_size has_bytes (slice_split is_space_or_tab line) in
    omega arith

word_case : (words : List (List ℕ)) (i n : ℕ) → sizes words ≤ n + 1 → (i < length words) ⊎ (length words ≤ i) →
    length (get_or words i []) ≤ n
word_case words i n h (inl in') = let one = get_or-le-sum_by size words i [] in' in omega arith
word_case words i n h (inr past) = rw (get_or_past words i [] past) (omega arith)

-- the word at a place is no longer than its line
pub word_size : (line : List ℕ) (i : ℕ) → length (get_or (words_of line) i []) ≤ length line
word_size line i = word_case (words_of line) i (length line) (words_size line) (cases_lt i (length (words_of line)))
