-- The parts of a list between the elements that a test finds.
use Rattle.host_protocol.proofs.Common.{◌≡◌, ℕ, suc, ◌+◌, ◌-◌, ◌<◌, Bool, true, false, not, List, [], ◌∷◌, length, take, drop, refl, arith, Some, None, length-drop, position, slice_split, position_or_len, prefix_len-le-length, position_some}
use Rattle.std.proofs.Math.ListN.{drop_of_length-le}
use Rattle.std.proofs.Math.Seq.{take-length}
use Rattle.std.proofs.lemmas.List.Splits.{slice_split_first}
use Rattle.list_lemmas.proofs.Positions.{none_whole}

pub one_more : (n : ℕ) → 1 + n ≡ suc n
one_more n = omega arith

-- the parts of a list begin with what stands before the first place that passes, and go on as those from there do
pub record Parts {X : Type 0} (p : X → Bool) (xs : List X) : Type 0 where
  pub rest : List (List X)
  pub all : slice_split p xs ≡ take (position_or_len p xs) xs ∷ rest
  pub behind : slice_split p (drop (position_or_len p xs) xs) ≡ [] ∷ rest

more_parts : {X : Type 0} (p : X → Bool) (x : X) (xs : List X) (v : Bool) → p x ≡ v → Parts p xs → Parts p (x ∷ xs)
more_parts p x xs true e h = record { rest = slice_split p xs; all = rw e refl; behind = rw (e, e) refl }
more_parts p x xs false e h = record {
  rest = h.rest;
  all = rw (e, h.all, one_more) refl;
  behind = rw (e, one_more) h.behind;
}

pub parts : {X : Type 0} (p : X → Bool) (xs : List X) → Parts p xs
parts p [] = record { rest = []; all = refl; behind = refl }
parts p (x ∷ xs) = more_parts p x xs (p x) refl (parts p xs)

-- the first part ends at the first place that passes
pub split_some : (p : ℕ → Bool) (xs : List ℕ) (i : ℕ) → position p xs ≡ Some i →
    slice_split p xs ≡ take i xs ∷ slice_split p (drop (i + 1) xs)
split_some p xs i h =
    let at = position_some p xs i h in
    let here : position_or_len p xs < length xs = omega (arith, at.0, at.1) in
    rw at.0 at (slice_split_first p xs 0 here)

-- where no place passes, the list is one part
pub split_none : (p : ℕ → Bool) (xs : List ℕ) → position p xs ≡ None → slice_split p xs ≡ xs ∷ []
split_none p xs h =
    let all = parts p xs in
    let far = none_whole p xs h in
    let whole : position_or_len p xs ≡ length xs = omega (arith, prefix_len-le-length (λ b. not (p b)) xs) in
    let gone : drop (position_or_len p xs) xs ≡ [] = drop_of_length-le xs far in
    let none : ◌≡◌ {A = List (List ℕ)} ([] ∷ []) ([] ∷ all.rest) = rw gone at all.behind in
    let taken : slice_split p xs ≡ take (length xs) xs ∷ all.rest = rw whole at all.all in
    let rest : [] ≡ all.rest = cc in
    rw (taken, take-length xs, ← rest) refl

-- what `&xs[i..]` is
abbrev pub rest_from : ℕ → List ℕ → List ℕ
rest_from i xs = take (length xs - i) (drop i xs)

pub rest_is : (i : ℕ) (xs : List ℕ) → rest_from i xs ≡ drop i xs
rest_is i xs = rw (← length-drop i xs) (take-length (drop i xs))
