-- Numbers below a limit of which no two are equal are at most as many as the limit.
use Rattle.sorted_records.proofs.Common.{◌≡◌, ◌≢◌, ℕ, zero, suc, ◌<◌, ◌≤◌, true, false, List, [], ◌∷◌, length, refl, inl, inr, arith, list_any, cases_Bool}
use Rattle.std.proofs.Common.{eqb}
use Rattle.std.specs.List.{AllByRecursion, IsDistinct}
use Rattle.std.proofs.lemmas.Bool.{ne_eqb, eqb-true}
use Rattle.std.proofs.lemmas.Map.Steps.{length-le_from_distinct_below}

module _ (f : ℕ → ℕ) where
  -- the first m values, the last one first
  first_values : ℕ → List ℕ
  first_values zero = []
  first_values (suc m) = f m ∷ first_values m

  length-first_values : (m : ℕ) → length (first_values m) ≡ m
  unfolding first_values
  length-first_values zero = refl
  length-first_values (suc m) = let e = length-first_values m in omega arith

  not_among : (m : ℕ) (v : ℕ) → ((i : ℕ) → i < m → v ≢ f i) → AllByRecursion (λ y. eqb v y ≡ false) (first_values m)
  unfolding first_values
  not_among zero v other = tt
  not_among (suc m) v other = (ne_eqb v (f m) (other m (omega arith)), not_among m v (λ i h. other i (omega arith)))

  are_distinct : (m : ℕ) → ((i k : ℕ) → i < k → k < m → f k ≢ f i) → IsDistinct eqb (first_values m)
  unfolding first_values IsDistinct
  are_distinct zero other = tt
  are_distinct (suc m) other =
      (not_among m (f m) (λ i h. other i m h (omega arith)), are_distinct m (λ i k l h. other i k l (omega arith)))

  are_below : (n m : ℕ) → ((i : ℕ) → i < m → f i < n) → (q : ℕ) → list_any (eqb q) (first_values m) ≡ true → q < n
  unfolding first_values
  are_below n zero below q has = cc
  are_below n (suc m) below q has = elim (cases_Bool (eqb q (f m))) [
    | inl t ↦ (let e = eqb-true q (f m) t in let b = below m (omega arith) in omega arith)
    | inr t ↦ are_below n m (λ i h. below i (omega arith)) q (rw t at has)
  ]

  pub pigeonhole : (m n : ℕ) → ((i : ℕ) → i < m → f i < n) → ((i k : ℕ) → i < k → k < m → f k ≢ f i) → m ≤ n
  pigeonhole m n below other =
      let few = length-le_from_distinct_below (first_values m) n (are_distinct m other) (are_below n m below) in
      let e = length-first_values m in
      omega arith
