-- What is counted of lines.
use Rattle.std.specs.Prelude.{ℕ, ◌+◌, ◌<◌, ◌^◌, List, [], ◌∷◌, sum_by, count_by, codes}
use Rattle.std.specs.Fmt.{decimal}
use Rattle.drive_gen.specs.Summary.{begins_with, page_sum}
use Rattle.drive_gen.specs.declared.tally.Tally.{Tally}

-- the lines of each kind, and the sum of the bytes of pages
abbrev pub tally_of : List (List ℕ) → Tally
tally_of lines = record {
  done = count_by (begins_with (codes "done")) lines;
  aborted = count_by (begins_with (codes "aborted")) lines;
  cut = count_by (begins_with (codes "cut")) lines;
  refused = count_by (begins_with (codes "refused")) lines;
  unknown = count_by (begins_with (codes "unknown")) lines;
  sum = sum_by page_sum lines;
}

-- both counts together
abbrev pub plus : Tally → Tally → Tally
plus a b = record {
  done = a.done + b.done;
  aborted = a.aborted + b.aborted;
  cut = a.cut + b.cut;
  refused = a.refused + b.refused;
  unknown = a.unknown + b.unknown;
  sum = a.sum + b.sum;
}

-- the counts are numbers of their types
pub record IsCounted (t : Tally) : Type 0 where
  pub done : t.done < 2 ^ 64
  pub aborted : t.aborted < 2 ^ 64
  pub cut : t.cut < 2 ^ 64
  pub refused : t.refused < 2 ^ 64
  pub unknown : t.unknown < 2 ^ 64
  pub sum : t.sum < 2 ^ 128

-- the words of the counts
abbrev pub tally_words : Tally → List (List ℕ)
tally_words t =
    codes "done" ∷ decimal t.done ∷ codes "aborted" ∷ decimal t.aborted ∷ codes "cut"
    ∷ decimal t.cut ∷ codes "refused" ∷ decimal t.refused
    ∷ codes "unknown" ∷ decimal t.unknown ∷ []
