-- The greatest of some numbers, after one of them changes, and a group of them.
use Rattle.dense_tables.proofs.Common.{◌≡◌, ◌≢◌, ℕ, zero, suc, ◌+◌, ◌-◌, ◌*◌, ◌<◌, ◌≤◌, inl, inr, min, List, [], ◌∷◌, length, get_or, set, drop, ◌∙◌, ap, arith, length-set, cases_lt, cases_eq, length-drop, get_or-drop, get_or-set_same, get_or-set_other, greatest}
use Rattle.std.proofs.lemmas.List.{length-take, get_or-take}
use Rattle.dense_tables.specs.Greatest.{group_of}

-- no number is greater
pub at_most_greatest : (xs : List ℕ) (k : ℕ) → k < length xs → get_or xs k 0 ≤ greatest xs
at_most_greatest [] k l = absurd (omega arith)
at_most_greatest (x ∷ xs) zero l = omega arith
at_most_greatest (x ∷ xs) (suc k) l = let rest = at_most_greatest xs k (omega arith) in omega arith

-- it is the least such
pub greatest_at_most : (xs : List ℕ) (m : ℕ) → ((k : ℕ) → k < length xs → get_or xs k 0 ≤ m) → greatest xs ≤ m
greatest_at_most [] m h = omega arith
greatest_at_most (x ∷ xs) m h =
    let first : x ≤ m = h 0 (omega arith) in
    let rest = greatest_at_most xs m (λ k l. h (suc k) (omega arith)) in
    omega arith

-- it stands among them where it is not 0
pub greatest_stands : (xs : List ℕ) → 0 < greatest xs → (k : ℕ) × (k < length xs) × (get_or xs k 0 ≡ greatest xs)
greatest_stands [] h = absurd (omega arith)
greatest_stands (x ∷ xs) h = elim (cases_lt x (greatest xs)) [
  | inl later ↦ let rest = greatest_stands xs (omega arith) in
      (suc rest.0, omega (arith, rest.1), omega (arith, rest.2))
  | inr first ↦ (0, omega arith, omega arith)
]

-- a number that is written over one of them and is not less than any is the greatest
pub greatest_risen : (xs : List ℕ) (k v : ℕ) → k < length xs → greatest xs ≤ v → greatest (set xs k v) ≡ v
greatest_risen xs k v l high =
    let least = greatest_at_most (set xs k v) v (λ j m. elim (cases_eq j k) [
      | inl same ↦ rw (same, get_or-set_same xs k v 0 l) (omega arith)
      | inr other ↦ rw (get_or-set_other xs k j v 0 other)
          (let one = at_most_greatest xs j (rw (length-set xs k v) at m) in omega arith)
    ]) in
    let most = rw (get_or-set_same xs k v 0 l) at (at_most_greatest (set xs k v) k (rw (length-set xs k v) l)) in
    omega arith

-- where one that is less than the greatest gives way to one that is not greater, the greatest stays
pub greatest_still : (xs : List ℕ) (k v : ℕ) → k < length xs → get_or xs k 0 < greatest xs → v ≤ greatest xs →
    greatest (set xs k v) ≡ greatest xs
greatest_still xs k v l less high =
    let least = greatest_at_most (set xs k v) (greatest xs) (λ j m. elim (cases_eq j k) [
      | inl same ↦ rw (same, get_or-set_same xs k v 0 l) high
      | inr other ↦ rw (get_or-set_other xs k j v 0 other) (at_most_greatest xs j (rw (length-set xs k v) at m))
    ]) in
    let stands = greatest_stands xs (omega arith) in
    let other : stands.0 ≢ k = λ e. let here = rw e at stands.2 in omega arith in
    let most = rw (get_or-set_other xs k stands.0 v 0 other) at
    (at_most_greatest (set xs k v) stands.0 (rw (length-set xs k v) stands.1)) in
    omega (arith, stands.2)

-- a place of a group of numbers is one of the numbers
pub length-group : (size : ℕ) (xs : List ℕ) (group : ℕ) → length (group_of size xs group)
    ≡ min size (length xs - size * group)
unfolding group_of
length-group size xs group = length-take size (drop (size * group) xs) ∙ ap (min size) (length-drop (size * group) xs)

pub get_or-group : (size : ℕ) (xs : List ℕ) (group j : ℕ) → j < size →
    get_or (group_of size xs group) j 0 ≡ get_or xs (size * group + j) 0
unfolding group_of
get_or-group size xs group j low = get_or-take size (drop (size * group) xs) j 0 low ∙ get_or-drop (size * group) xs j 0
