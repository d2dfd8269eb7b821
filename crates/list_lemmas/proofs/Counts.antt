-- How many numbers of a range pass a test.
use Rattle.std.proofs.Common.{ℕ, Bool, cond, ◌≡◌, ◌+◌, ◌-◌, count_by, sym, ap, ◌∙◌, ◌≤◌, arith, true, false, suc, zero, ◌<◌, refl, inl, inr, ap₂}
use Rattle.std.specs.List.{range_with_len}
use Rattle.std.proofs.lemmas.Bool.{cases_eq, false≢true, cases_lt, cases_Bool}
use Rattle.std.proofs.lemmas.List.{map-id}
use Rattle.std.proofs.lemmas.List.FromFn.{sum_by-map-range_with_len_more}
use Rattle.std.proofs.lemmas.List.Sums.{sum_by-cons}

-- what a number adds to a count
abbrev one_if : (ℕ → Bool) → ℕ → ℕ
one_if p k = cond (p k) 1 0

-- a count with one number more
count_one_more : (p : ℕ → Bool) (first n at : ℕ) → first + n ≡ at →
    count_by p (range_with_len first (n + 1)) ≡ count_by p
    (range_with_len first n) + one_if p at
count_one_more p first n at e =
    ap (count_by p) (sym (map-id (range_with_len first (n + 1))))
    ∙ sum_by-map-range_with_len_more (one_if p) (λ (k : ℕ). k) first n at e
    ∙ ap (λ xs. count_by p xs + one_if p at) (map-id (range_with_len first n))

module _ (p : ℕ → Bool) (first at count : ℕ) (low : first ≤ at)
    (so_far : count ≡ count_by p (range_with_len first (at - first))) where
  -- a loop's step over such a count
  count_next : count_by p (range_with_len first (at + 1 - first)) ≡ count + one_if p at
  count_next =
      let next : at + 1 - first ≡ at - first + 1 = omega arith in
      ap (λ k. count_by p (range_with_len first k)) next ∙ count_one_more p first (at - first) at (omega arith)
      ∙ ap (λ k. k + one_if p at) (sym so_far)

  -- a loop's step over such a count
  pub count_taken : p at ≡ true → count + 1 ≡ count_by p (range_with_len first (at + 1 - first))
  count_taken pass = sym (count_next ∙ ap (λ b. count + cond b 1 0) pass)

  -- and where the number is not counted
  pub count_passed : p at ≡ false → count ≡ count_by p (range_with_len first (at + 1 - first))
  count_passed fail = sym (count_next ∙ ap (λ b. count + cond b 1 0) fail ∙ (omega arith))

-- a count over a range, its first number apart
pub count_first : (p : ℕ → Bool) (a n : ℕ) → count_by p (range_with_len a (suc n))
    ≡ cond (p a) 1 0 + count_by p (range_with_len (a + 1) n)
count_first p a n = sum_by-cons (λ k. cond (p k) 1 0) a (range_with_len (a + 1) n)

-- where none of a range is counted, each fails
pub none_in_range : (p : ℕ → Bool) (a n : ℕ) → count_by p (range_with_len a n) ≡ 0 → (k : ℕ) → a ≤ k →
    k < a + n → p k ≡ false
none_in_range p a zero none k low high = absurd (omega arith)
none_in_range p a (suc n) none k low high =
    let first = count_first p a n in
    elim (cases_eq k a) [
      | inl here ↦ ap p here ∙ failed (p a) (omega arith)
      | inr later ↦ none_in_range p (a + 1) n (omega arith) k (omega arith) (omega arith)
    ]
  where
    failed : (b : Bool) → cond {A = ℕ} b 1 0 ≡ 0 → b ≡ false
    failed true e = absurd (omega arith)
    failed false e = refl

-- what a test adds to a count
abbrev pub one_of : Bool → ℕ
one_of b = cond b 1 0

-- it adds no less where another one adds
one_more : (b c : Bool) → (c ≡ true → b ≡ true) → cond c 1 0 ≤ cond b 1 0
one_more true true h = omega arith
one_more true false h = omega arith
one_more false true h = absurd (false≢true (h refl))
one_more false false h = omega arith

-- of two tests of a range the first passes where the second does
pub count_more : (p q : ℕ → Bool) (a n : ℕ) → ((k : ℕ) → a ≤ k → k < a + n → q k ≡ true → p k ≡ true) →
    count_by q (range_with_len a n) ≤ count_by p (range_with_len a n)
count_more p q a zero h = omega arith
count_more p q a (suc n) h =
    let rest = count_more p q (a + 1) n (λ k low high. h k (omega arith) (omega arith)) in
    let here = one_more (p a) (q a) (h a (omega arith) (omega arith)) in
    omega (arith, count_first p a n, count_first q a n, rest, here)

-- and somewhere the second does not
pub count_less : (p q : ℕ → Bool) (a n j : ℕ) → ((k : ℕ) → a ≤ k → k < a + n → q k ≡ true → p k ≡ true) → a ≤ j →
    j < a + n → p j ≡ true → q j ≡ false →
    count_by q (range_with_len a n) < count_by p (range_with_len a n)
count_less p q a zero j h low high pass off = absurd (omega arith)
count_less p q a (suc n) j h low high pass off = elim (cases_lt a j) [
  | inl later ↦ (
      let rest = count_less p q (a + 1) n j (λ k low high. h k (omega arith) (omega arith)) (omega arith)
      (omega arith) pass off in
      let here = one_more (p a) (q a) (h a (omega arith) (omega arith)) in
      omega (arith, count_first p a n, count_first q a n, rest, here))
  | inr now ↦ (
      let same : j ≡ a = omega arith in
      let rest = count_more p q (a + 1) n (λ k low high. h k (omega arith) (omega arith)) in
      let one : one_of (p a) ≡ 1 = ap one_of (ap p (sym same) ∙ pass) in
      let none : one_of (q a) ≡ 0 = ap one_of (ap q (sym same) ∙ off) in
      omega (arith, count_first p a n, count_first q a n, rest, one, none))
]

-- a number of a range that passes
pub record PassesIn (p : ℕ → Bool) (a n : ℕ) : Type 0 where
  pub at : ℕ
  pub low : a ≤ at
  pub high : at < a + n
  pub passes : p at ≡ true

-- where some are counted, one passes
pub count_some : (p : ℕ → Bool) (a n : ℕ) → 0 < count_by p (range_with_len a n) → PassesIn p a n
count_some p a zero h = absurd (omega arith)
count_some p a (suc n) h = elim (cases_Bool (p a)) [
  | inl pass ↦ record { at = a; low = omega arith; high = omega arith; passes = pass }
  | inr fail ↦ (
      let none : one_of (p a) ≡ 0 = ap one_of fail in
      let rest = count_some p (a + 1) n (omega (arith, count_first p a n, none)) in
      let low = rest.low in
      let high = rest.high in
      record { at = rest.at; low = omega arith; high = omega arith; passes = rest.passes })
]

-- a count over a range of which this many first numbers pass, and no others
pub filled_count : (p : ℕ → Bool) (a n filled : ℕ) → filled ≤ n → ((k : ℕ) → k < filled → p (a + k) ≡ true) →
    ((k : ℕ) → filled ≤ k → k < n → p (a + k) ≡ false) →
    count_by p (range_with_len a n) ≡ filled
filled_count p a zero filled le pass fail = omega arith
filled_count p a (suc n) zero le pass fail =
    let here : p a ≡ false = ap p (let at : a ≡ a + 0 = omega arith in at) ∙ fail 0 (omega arith) (omega arith) in
    let rest = filled_count p (a + 1) n 0 (omega arith) (λ k lt. absurd (omega arith))
    (λ k low lt. ap p (let at : a + 1 + k ≡ a + (k + 1) = omega arith in at)
    ∙ fail (k + 1) (omega arith) (omega arith)) in
    count_first p a n ∙ ap₂ (λ b r. cond b 1 0 + r) here rest
filled_count p a (suc n) (suc f) le pass fail =
    let here : p a ≡ true = ap p (let at : a ≡ a + 0 = omega arith in at) ∙ pass 0 (omega arith) in
    let rest = filled_count p (a + 1) n f (omega arith) (λ k lt. ap p (let at : a + 1 + k ≡ a + (k + 1) = omega arith in
    at) ∙ pass (k + 1) (omega arith))
    (λ k low lt. ap p (let at : a + 1 + k ≡ a + (k + 1) = omega arith in at)
    ∙ fail (k + 1) (omega arith) (omega arith)) in
    count_first p a n ∙ ap₂ (λ b r. cond b 1 0 + r) here rest ∙ (let more : 1 + f ≡ suc f = omega arith in more)
