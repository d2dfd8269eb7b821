-- Counting line by line.
use Rattle.drive_gen.proofs.Common.{◌≡◌, ℕ, ◌+◌, ◌<◌, ◌≤◌, Bool, true, false, cond, List, [], ◌∷◌, length, refl, arith, codes, lines_of, words_of, last_stats, sum_of_bytes, plus, tally_of, ◌++◌, sym, ap, ◌∙◌}
use Rattle.std.proofs.Common.{◌*◌, ◌^◌, zero-add, Some, None, unwrap_or, subst}
use Rattle.std.specs.List.{sum_by, count_by, filter, last_or}
use Rattle.std.proofs.lemmas.List.Sums.{sum_by-append, sum_by-cons, sum_by-le-sum_by}
use Rattle.drive_gen.specs.Summary.{begins_with, page_sum, word_or}
use Rattle.drive_gen.specs.Tally.{IsCounted}
use Rattle.drive_gen.specs.declared.tally.Tally.{Tally}
use Rattle.drive_gen.proofs.HexLemmas.{sum_most}
use Rattle.drive_gen.proofs.SizeLemmas.{size, sizes, sizes-cons, lines_size, word_size}

step : (f : List ℕ → ℕ) (n : ℕ) (line : List ℕ) (lines : List (List ℕ)) →
    n + sum_by f (line ∷ lines) ≡ n + sum_by f (line ∷ []) + sum_by f lines
step f n line lines = let one = sum_by-cons f line [] in let all = sum_by-cons f line lines in omega arith

count_step : (p : List ℕ → Bool) (n : ℕ) (line : List ℕ) (lines : List (List ℕ)) →
    n + count_by p (line ∷ lines) ≡ n + count_by p (line ∷ []) + count_by p lines
count_step p n line lines = step (λ l. cond (p l) 1 0) n line lines

tally_with : ℕ → ℕ → ℕ → ℕ → ℕ → ℕ → Tally
tally_with a b c d e f = record { done = a; aborted = b; cut = c; refused = d; unknown = e; sum = f }

pub same : (s t : Tally) → s.done ≡ t.done → s.aborted ≡ t.aborted → s.cut ≡ t.cut → s.refused ≡ t.refused →
    s.unknown ≡ t.unknown → s.sum ≡ t.sum → s ≡ t
unfolding tally_with
same s t done aborted cut refused unknown sum =
    let all : tally_with s.done s.aborted s.cut s.refused s.unknown s.sum ≡ tally_with t.done t.aborted t.cut t.refused
    t.unknown t.sum =
    rw (done, aborted, cut, refused, unknown, sum) refl
    in
    all

-- one line more
pub tally_more : (t : Tally) (line : List ℕ) (lines : List (List ℕ)) →
    plus t (tally_of (line ∷ lines)) ≡ plus (plus t (tally_of (line ∷ []))) (tally_of lines)
tally_more t line lines =
    same (plus t (tally_of (line ∷ lines))) (plus (plus t (tally_of (line ∷ []))) (tally_of lines))
    (count_step (begins_with (codes "done")) t.done line lines)
    (count_step (begins_with (codes "aborted")) t.aborted line lines)
    (count_step (begins_with (codes "cut")) t.cut line lines)
    (count_step (begins_with (codes "refused")) t.refused line lines)
    (count_step (begins_with (codes "unknown")) t.unknown line lines)
    (step page_sum t.sum line lines)

-- no line before
pub tally_begin : (t : Tally) → plus (tally_of []) t ≡ t
tally_begin t = same (plus (tally_of []) t) t (zero-add t.done) (zero-add t.aborted) (zero-add t.cut)
    (zero-add t.refused) (zero-add t.unknown) (zero-add t.sum)

-- ---- the counts are numbers of their types

one_most : (v : Bool) (n : ℕ) → cond v 1 0 ≤ n + 1
one_most true n = omega arith
one_most false n = omega arith

count_most : (p : List ℕ → Bool) (lines : List (List ℕ)) → count_by p lines ≤ sizes lines
count_most p lines = sum_by-le-sum_by (λ l. cond (p l) 1 0) size lines (λ l. one_most (p l) (length l))

page_most : (v : Bool) (n m k : ℕ) → n ≤ 128 * m → m ≤ k → cond v n 0 ≤ 128 * (k + 1)
page_most true n m k p q = omega arith
page_most false n m k p q = omega arith

pages_most : (lines : List (List ℕ)) → sum_by page_sum lines ≤ 128 * sizes lines
pages_most [] = omega arith
pages_most (line ∷ lines) =
    let word = word_or line 2 [] in
    let here : page_sum line ≤ 128 * (length line + 1) = page_most (begins_with (codes "page") line) (sum_of_bytes word)
    (length word) (length line)
    (sum_most word) (word_size line 2) in
    let rest = pages_most lines in
    let all = sum_by-cons page_sum line lines in
    let long = sizes-cons line lines in
    omega arith

-- so are those of the lines of bytes
pub tally_small : (bytes : List ℕ) → length bytes < 2 ^ 63 → IsCounted (tally_of (lines_of bytes))
tally_small bytes h =
    let long = lines_size bytes in
    let count : (p : List ℕ → Bool) → count_by p (lines_of bytes) < 2 ^ 64 =
    λ p. omega (arith, count_most p (lines_of bytes)) in
    record {
      done = count (begins_with (codes "done"));
      aborted = count (begins_with (codes "aborted"));
      cut = count (begins_with (codes "cut"));
      refused = count (begins_with (codes "refused"));
      unknown = count (begins_with (codes "unknown"));
      sum = omega (arith, pages_most (lines_of bytes));
    }

part_small : (a b : Tally) → IsCounted (plus a b) → IsCounted a
part_small a b h = record {
  done = let f = h.done in omega arith;
  aborted = let f = h.aborted in omega arith;
  cut = let f = h.cut in omega arith;
  refused = let f = h.refused in omega arith;
  unknown = let f = h.unknown in omega arith;
  sum = let f = h.sum in omega arith;
}

-- so are those of the first lines
pub some_small : (t all : Tally) (line : List ℕ) (lines : List (List ℕ)) →
    plus t (tally_of (line ∷ lines)) ≡ all → IsCounted all
    → IsCounted (plus t (tally_of (line ∷ [])))
some_small t all line lines e h = part_small (plus t (tally_of (line ∷ []))) (tally_of lines)
    (rw (← tally_more t line lines, e) h)

-- ---- the last line of the numbers

-- the last such line of these, or else the one before them
abbrev pub last_from : List ℕ → List (List ℕ) → List ℕ
last_from stats lines = unwrap_or (last_or (Some stats) (filter (begins_with (codes "stats")) lines)) []

last_case : (found : List (List ℕ)) → unwrap_or (last_or (Some []) found) [] ≡ unwrap_or (last_or None found) []
last_case [] = refl
last_case (line ∷ lines) = refl

pub last_begin : (lines : List (List ℕ)) → last_from [] lines ≡ last_stats lines
last_begin lines = last_case (filter (begins_with (codes "stats")) lines)

-- ---- lines behind others

pub tally_join : (xs ys : List (List ℕ)) → tally_of (xs ++ ys) ≡ plus (tally_of xs) (tally_of ys)
tally_join xs ys =
    same (tally_of (xs ++ ys)) (plus (tally_of xs) (tally_of ys))
    (sum_by-append (λ l. cond (begins_with (codes "done") l) 1 0) xs ys)
    (sum_by-append (λ l. cond (begins_with (codes "aborted") l) 1 0) xs ys)
    (sum_by-append (λ l. cond (begins_with (codes "cut") l) 1 0) xs ys)
    (sum_by-append (λ l. cond (begins_with (codes "refused") l) 1 0) xs ys)
    (sum_by-append (λ l. cond (begins_with (codes "unknown") l) 1 0) xs ys)
    (sum_by-append page_sum xs ys)

abbrev is_stats : List ℕ → Bool
is_stats line = begins_with (codes "stats") line

step_case : (v : Bool) (stats line : List ℕ) (found : List (List ℕ)) →
    unwrap_or (last_or (Some stats) (cond v (line ∷ found) found)) []
    ≡ unwrap_or (last_or (Some (cond v line stats)) found) []
step_case true stats line found = refl
step_case false stats line found = refl

-- the first of the lines
last_step : (stats line : List ℕ) (lines : List (List ℕ)) →
    last_from stats (line ∷ lines) ≡ last_from (cond (is_stats line) line stats) lines
last_step stats line lines = step_case (is_stats line) stats line (filter (begins_with (codes "stats")) lines)

last_join : (stats : List ℕ) (xs ys : List (List ℕ)) → last_from stats (xs ++ ys) ≡ last_from (last_from stats xs) ys
last_join stats [] ys = refl
last_join stats (line ∷ xs) ys =
    last_step stats line (xs ++ ys) ∙ last_join (cond (is_stats line) line stats) xs ys
    ∙ ap (λ s. last_from s ys) (sym (last_step stats line xs))

-- an empty line is no such line
blank_case : (v : Bool) (b : ℕ) (bytes stats : List ℕ) → length (cond v (b ∷ bytes) stats) ≡ 0 →
    (length stats ≡ 0) × (v ≡ false)
blank_case true b bytes stats h = absurd (omega arith)
blank_case false b bytes stats h = (h, refl)

blank_stats : is_stats [] ≡ false
unfolding begins_with words_of
blank_stats = refl

none_here : (line stats : List ℕ) → length (cond (is_stats line) line stats) ≡ 0 →
    (length stats ≡ 0) × (is_stats line ≡ false)
none_here [] stats h = (ap (λ v. length (cond v [] stats)) (sym blank_stats) ∙ h, blank_stats)
none_here (b ∷ bytes) stats h = blank_case (is_stats (b ∷ bytes)) b bytes stats h

none_before : (stats : List ℕ) (lines : List (List ℕ)) → length (last_from stats lines) ≡ 0 → length stats ≡ 0
none_before stats [] h = h
none_before stats (line ∷ lines) h =
    (none_here line stats (none_before (cond (is_stats line) line stats) lines
    (ap length (sym (last_step stats line lines)) ∙ h))).0

-- where these have none, it is the one before them
kept_from : (first stats : List ℕ) (lines : List (List ℕ)) → length (last_from first lines) ≡ 0 →
    last_from stats lines ≡ stats
kept_from first stats [] h = refl
kept_from first stats (line ∷ lines) h =
    let next = cond (is_stats line) line first in
    let none : length (last_from next lines) ≡ 0 = ap length (sym (last_step first line lines)) ∙ h in
    let other = (none_here line first (none_before next lines none)).1 in
    last_step stats line lines ∙ ap (λ v. last_from (cond v line stats) lines) other
    ∙ kept_from next stats lines none

found_case : (v : Bool) (first stats line : List ℕ) (lines : List (List ℕ)) →
    0 < length (last_from (cond v line first) lines) →
    (0 < length (last_from first lines) → last_from stats lines ≡ last_from first lines) →
    last_from (cond v line stats) lines ≡ last_from (cond v line first) lines
found_case true first stats line lines h later = refl
found_case false first stats line lines h later = later h

-- and where they have one, it is that
found_from : (first stats : List ℕ) (lines : List (List ℕ)) → length first ≡ 0 →
    0 < length (last_from first lines) → last_from stats lines ≡ last_from first lines
found_from first stats [] none h = absurd (omega arith)
found_from first stats (line ∷ lines) none h =
    let here : 0 < length (last_from (cond (is_stats line) line first) lines) =
    subst (λ (l : List ℕ). 0 < length l) (last_step first line lines) h in
    last_step stats line lines
    ∙ found_case (is_stats line) first stats line lines here (λ some. found_from first stats lines none some)
    ∙ sym (last_step first line lines)

stats_join : (xs ys : List (List ℕ)) → last_stats (xs ++ ys) ≡ last_from (last_stats xs) ys
stats_join xs ys =
    sym (last_begin (xs ++ ys)) ∙ last_join [] xs ys ∙ ap (λ s. last_from s ys) (last_begin xs)

pub stats_kept : (xs ys : List (List ℕ)) → length (last_stats ys) ≡ 0 → last_stats (xs ++ ys) ≡ last_stats xs
stats_kept xs ys h = stats_join xs ys ∙ kept_from [] (last_stats xs) ys (ap length (last_begin ys) ∙ h)

pub stats_found : (xs ys : List (List ℕ)) → 0 < length (last_stats ys) → last_stats (xs ++ ys) ≡ last_stats ys
stats_found xs ys h =
    stats_join xs ys
    ∙ found_from [] (last_stats xs) ys refl (subst (λ (l : List ℕ). 0 < length l) (sym (last_begin ys)) h)
    ∙ last_begin ys
