-- The first place of a list that passes a test.
use Rattle.std.proofs.Common.{◌≡◌, ℕ, ◌<◌, ltb, Bool, true, false, cond, List, length, get_or, Some, None, ap, ◌∙◌, arith, ◌≤◌, inl, inr, ◌∷◌, suc, ◌+◌, not}
use Rattle.std.proofs.Common.{refl, unwrap_or}
use Rattle.std.specs.List.{position_or_len}
use Rattle.std.specs.Prelude.{position, nat_lt}
use Rattle.std.proofs.lemmas.Bool.{lt-ltb, le-ltb, cases_lt, ltb-true}
use Rattle.std.proofs.lemmas.Bool.Decides.{nat_tests}
use Rattle.std.proofs.lemmas.List.Sums.{position_or_len_is, fails_before_first, prefix_len-le-length}
use Rattle.std.proofs.lemmas.Option.{cond_some}

module _ {X : Type 0} (p : X → Bool) (xs : List X) (d : X) where
  -- the element at an index passes, and none before it
  pub position-at : (i : ℕ) → i < length xs → ((k : ℕ) → k < i → p (get_or xs k d) ≡ false) → p (get_or xs i d) ≡ true →
      position p xs ≡ Some i
  position-at i inside before here =
      let is = position_or_len_is p xs i d (omega arith) before (λ _. here) in
      ap (λ n. cond (ltb n (length xs)) (Some n) None) is ∙ ap (λ b. cond b (Some i) None) (lt-ltb i (length xs) inside)

  -- where none passes, there is no such place
  pub position-none : ((k : ℕ) → k < length xs → p (get_or xs k d) ≡ false) → position p xs ≡ None
  position-none all =
      let is = position_or_len_is p xs (length xs) d (omega arith) all (λ less. absurd (omega arith)) in
      ap (λ n. cond (ltb n (length xs)) (Some n) None) is
      ∙ ap (λ b. cond b (Some (length xs)) None) (le-ltb (length xs) (length xs) (omega arith))

-- none passes where the whole list comes before the first that does
pub none_whole : {X : Type 0} (p : X → Bool) (xs : List X) → position p xs ≡ None → length xs ≤ position_or_len p xs
none_whole p xs none =
    elim (cases_lt (position_or_len p xs) (length xs)) [
      | inl less ↦
          let some : position p xs ≡ Some (position_or_len p xs) = ap (λ b. cond b (Some (position_or_len p xs)) None)
          (lt-ltb _ _ less) in
          absurd cc
      | inr all ↦ all
    ]

-- and the other way round
pub whole_none : {X : Type 0} (p : X → Bool) (xs : List X) → length xs ≤ position_or_len p xs → position p xs ≡ None
whole_none p xs all = ap (λ b. cond b (Some (position_or_len p xs)) None) (le-ltb _ _ all)

-- where there is no such place, each fails
pub position-all : {X : Type 0} (p : X → Bool) (xs : List X) (d : X) → position p xs ≡ None → (k : ℕ) → k < length xs →
    p (get_or xs k d) ≡ false
position-all p xs d none k inside = fails_before_first p xs k d (let all = none_whole p xs none in omega arith)

-- the first element and the others
pub position-pass : {X : Type 0} (p : X → Bool) (x : X) (xs : List X) → p x ≡ false → position p xs ≡ None →
    position p (x ∷ xs) ≡ None
position-pass p x xs fails none =
    whole_none p (x ∷ xs) (rw fails (let rest = none_whole p xs none in omega arith))

-- and both fail where none passes
pub position-rest : {X : Type 0} (p : X → Bool) (x : X) (xs : List X) → position p (x ∷ xs) ≡ None →
    (p x ≡ false) × (position p xs ≡ None)
position-rest p x xs none =
    let all = none_whole p (x ∷ xs) none in
    let P : Bool → Type 0 = λ b. suc (length xs) ≤ cond (not b) (1 + position_or_len p xs) 0 →
    (b ≡ false) × (position p xs ≡ None) in
    let cases : P (p x) = elim (p x) as P [
      | true ↦ λ none_left. absurd (omega arith)
      | false ↦ λ rest. (refl, whole_none p xs (omega arith))
    ] in
    cases all

-- the place as a number
pub position_some : {X : Type 0} (p : X → Bool) (xs : List X) (i : ℕ) → position p xs ≡ Some i →
    (position_or_len p xs ≡ i) × (i < length xs)
position_some p xs i h =
    let both = cond_some (nat_lt (position_or_len p xs) (length xs)) (position_or_len p xs) i h in
    (both.1, rw both.1 at (ltb-true (position_or_len p xs) (length xs) both.0))

-- the place, or the length
pub position_end : {X : Type 0} (p : X → Bool) (xs : List X) →
    unwrap_or (position p xs) (length xs) ≡ position_or_len p xs
position_end p xs = grind (arith, nat_tests, prefix_len-le-length (λ x. not (p x)) xs)
