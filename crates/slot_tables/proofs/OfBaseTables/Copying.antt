-- The copies of a record, and what a change of a slot makes of them.
use Rattle.slot_tables.proofs.Common.{◌≡◌, ◌≢◌, ℕ, zero, suc, ◌+◌, ◌-◌, ◌<◌, ◌≤◌, ◌↔◌, Bool, true, false, cond, eqb, inl, inr, List, [], ◌∷◌, ◌++◌, length, get_or, set, replicate, refl, sym, ◌∙◌, ap, ap₂, arith, length-set, AllPairs, Contains, range_with_len, position_or_len, remove, cases_lt, cases_eq, nat_tests, get_or-set_same, get_or-set_other, get_or-replicate, get_or_past, length-replicate, pairs_cons, index_in, SlotUse, Blank, use_at, holds, copies_of, Rises, is_above}
use Rattle.std.proofs.Common.{filter, length-append}
use Rattle.std.specs.List.{insert}
use Rattle.std.proofs.lemmas.Bool.{cond_both, cond-true, cond-false}
use Rattle.std.proofs.lemmas.List.{get_or_append_left, get_or-append_right}
use Rattle.std.proofs.Math.Seq.{get_or-append_seam}
use Rattle.std.proofs.lemmas.List.Edits.{insert-append_right, remove-append_right}
use Rattle.std.proofs.lemmas.List.Elements.{filter-append, Contains-get_or}
use Rattle.std.proofs.lemmas.List.Sums.{position_or_len_is}
use Rattle.list_lemmas.proofs.Membership.{in_filter, from_filter}
use Rattle.list_lemmas.proofs.Ranges.{range_bounds, in_range}

-- a range in two parts
pub range_split : (a k j : ℕ) → range_with_len a (k + j) ≡ range_with_len a k ++ range_with_len (a + k) j
range_split a zero j =
    ap (range_with_len a) (let same : 0 + j ≡ j = omega arith in same) ∙ ap (λ b. range_with_len b j)
    (let same : a ≡ a + 0 = omega arith in same)
range_split a (suc k) j =
    ap (range_with_len a) (let more : suc k + j ≡ suc (k + j) = omega arith in more)
    ∙ ap (λ l. a ∷ l) (range_split (a + 1) k j ∙ ap
    (λ b. range_with_len (a + 1) k ++ range_with_len b j) (let at : a + 1 + k ≡ a + suc k = omega arith in at))

-- tests that agree on a range let the same numbers pass
pub filter_same : (p q : ℕ → Bool) (a n : ℕ) → ((k : ℕ) → a ≤ k → k < a + n → p k ≡ q k)
    → filter p (range_with_len a n) ≡ filter q (range_with_len a n)
filter_same p q a zero same = refl
filter_same p q a (suc n) same =
    ap₂ (λ b l. cond b (a ∷ l) l) (same a (omega arith) (omega arith))
    (filter_same p q (a + 1) n (λ k low high. same k (omega arith) (omega arith)))

-- the numbers of a range that pass rise
pub filter_rises : (p : ℕ → Bool) (a n : ℕ) → AllPairs (λ x y. x < y) (filter p (range_with_len a n))
filter_rises p a zero = λ i j d less low. absurd (omega arith)
filter_rises p a (suc n) =
    let rest = filter_rises p (a + 1) n in
    cond_both (p a) (a ∷ filter p (range_with_len (a + 1) n)) (filter p (range_with_len (a + 1) n))
    (AllPairs (λ x y. x < y))
    (λ _. pairs_cons (λ x y. x < y) a (filter p (range_with_len (a + 1) n))
    (λ y is. let inside = range_bounds (a + 1) n y (from_filter p y (range_with_len (a + 1) n) is).0 in
    omega (arith, inside.0)) rest)
    (λ _. rest)

pub copies_rise : (uses : List SlotUse) (x : ℕ) → Rises (copies_of uses x)
unfolding copies_of Rises
copies_rise uses x = filter_rises (λ at. holds x (use_at uses at)) 0 (length uses)

-- which slots are copies
pub copies_have : (uses : List SlotUse) (x at : ℕ) → Contains (copies_of uses x) at
    ↔ ((at < length uses) × (holds x (use_at uses at) ≡ true))
unfolding copies_of
copies_have uses x at = (
  λ is.
      let both = from_filter (λ s. holds x (use_at uses s)) at (range_with_len 0 (length uses)) is in
      let inside = range_bounds 0 (length uses) at both.0 in
      (omega (arith, inside.1), both.1),
  λ both. in_filter (λ s. holds x (use_at uses s)) at (range_with_len 0 (length uses))
      (in_range 0 (length uses) at (omega arith) (omega
      (arith, both.0))) both.1,
)

module _ (p q : ℕ → Bool) (at m n : ℕ) (same : (k : ℕ) → k ≢ at → p k ≡ q k) (whole : at + suc m ≡ n)
    (off : p at ≡ false) (on : q at ≡ true) where
  abbrev front : List ℕ
  front = filter p (range_with_len 0 at)

  abbrev back : List ℕ
  back = filter p (range_with_len (at + 1) m)

  parts : (r : ℕ → Bool) → filter r (range_with_len 0 n) ≡ filter r (range_with_len 0 at)
      ++ cond (r at) (at ∷ filter r (range_with_len
      (at + 1) m)) (filter r (range_with_len (at + 1) m))
  parts r =
      ap (λ k. filter r (range_with_len 0 k)) (sym whole) ∙ ap (filter r) (range_split 0 at (suc m))
      ∙ filter-append r (range_with_len 0 at) (range_with_len (0 + at) (suc m))
      ∙ ap (λ b. filter r (range_with_len 0 at) ++ filter r (range_with_len b (suc m)))
      (let here : 0 + at ≡ at = omega arith in here)

  without_is : filter p (range_with_len 0 n) ≡ front ++ back
  without_is = parts p ∙ ap (λ l. front ++ l) (cond-false (p at) (at ∷ back) back off)

  with_is : filter q (range_with_len 0 n) ≡ front ++ at ∷ back
  with_is =
      parts q ∙ ap (λ l. filter q (range_with_len 0 at) ++ l)
      (cond-true (q at) (at ∷ filter q (range_with_len (at + 1) m)) (filter q
      (range_with_len (at + 1) m)) on)
      ∙ ap₂ (λ l r. l ++ at ∷ r) (sym (filter_same p q 0 at (λ k low high. same k (λ e. omega arith))))
      (sym (filter_same p q (at + 1) m
      (λ k low high. same k (λ e. omega arith))))

  front_below : (k : ℕ) → k < length front → get_or front k 0 < at
  front_below k low = (let inside = range_bounds 0 at (get_or front k 0)
      (from_filter p (get_or front k 0) (range_with_len 0 at)
      (Contains-get_or front k 0 low)).0 in omega (arith, inside.1))

  back_above : (k : ℕ) → k < length back → at < get_or back k 0
  back_above k low = (let inside = range_bounds (at + 1) m (get_or back k 0)
      (from_filter p (get_or back k 0) (range_with_len (at + 1) m)
      (Contains-get_or back k 0 low)).0 in omega (arith, inside.0))

  -- one more passes
  pub filter_put : filter q (range_with_len 0 n) ≡ insert (filter p (range_with_len 0 n))
      (position_or_len (is_above at) (filter p
      (range_with_len 0 n))) at
  filter_put =
      let place = position_or_len_is (is_above at) (front ++ back) (length front) 0
      (omega (arith, length-append front back))
      (λ k l. let low = front_below k l in rw (get_or_append_left front back 0 k l) (grind (arith, nat_tests)))
      (λ l. let high = back_above 0 (omega (arith, length-append front back)) in
      let here = get_or-append_right front back (length front) (length front) 0 refl (omega arith) in
      let none : length front - length front ≡ 0 = omega arith in
      rw (here, none) (grind (arith, nat_tests))) in
      with_is ∙ sym (ap (λ xs. insert xs (position_or_len (is_above at) xs) at) without_is
      ∙ ap (λ i. insert (front ++ back) i at) place
      ∙ insert-append_right front back (length front) (length front) at refl (omega arith)
      ∙ ap (λ i. front ++ insert back i at) (let none : length front - length front ≡ 0 = omega arith in none))

  -- and one no more
  pub filter_took : filter p (range_with_len 0 n) ≡ remove (filter q (range_with_len 0 n))
      (index_in (filter q (range_with_len 0 n)) at)
  filter_took =
      let place = position_or_len_is (λ x. eqb x at) (front ++ at ∷ back) (length front) 0
      (omega (arith, length-append front (at ∷ back)))
      (λ k l. let low = front_below k l in rw (get_or_append_left front (at ∷ back) 0 k l) (grind (arith, nat_tests)))
      (λ l. rw (get_or-append_seam front at back 0) (grind (arith, nat_tests))) in
      without_is ∙ sym (ap (λ xs. remove xs (index_in xs at)) with_is ∙ ap (remove (front ++ at ∷ back)) place
      ∙ remove-append_right front (at ∷ back) (length front) (length front) refl (omega arith)
      ∙ ap (λ i. front ++ remove (at ∷ back) i) (let none : length front - length front ≡ 0 = omega arith in none))

-- where none passes
filter_none : (p : ℕ → Bool) (a n : ℕ) → ((k : ℕ) → p k ≡ false) → filter p (range_with_len a n) ≡ []
filter_none p a zero off = refl
filter_none p a (suc n) off = rw (off a) (filter_none p (a + 1) n off)

module _ (uses : List SlotUse) (at : ℕ) (low : at < length uses) (to : SlotUse) where
  -- what holds elsewhere stays
  elsewhere : (x k : ℕ) → k ≢ at → holds x (use_at uses k) ≡ holds x (use_at (set uses at to) k)
  elsewhere x k other = ap (holds x) (sym (get_or-set_other uses at k to Blank other))

  here : (x : ℕ) → holds x (use_at (set uses at to) at) ≡ holds x to
  here x = ap (holds x) (get_or-set_same uses at to Blank low)

  whole : at + suc (length uses - at - 1) ≡ length uses
  whole = omega arith

  -- a slot comes to hold the record of a number
  pub copies_put : (x : ℕ) → holds x (use_at uses at) ≡ false → holds x to ≡ true
      → copies_of (set uses at to) x ≡ insert (copies_of uses x) (position_or_len (is_above at) (copies_of uses x)) at
  unfolding copies_of
  copies_put x off on =
      ap (λ n. filter (λ s. holds x (use_at (set uses at to) s)) (range_with_len 0 n)) (length-set uses at to)
      ∙ filter_put (λ s. holds x (use_at uses s))
      (λ s. holds x (use_at (set uses at to) s)) at (length uses - at - 1) (length uses) (elsewhere x) whole
      off (here x ∙ on)

  -- a slot holds it no more
  pub copies_took : (x : ℕ) → holds x (use_at uses at) ≡ true → holds x to ≡ false
      → copies_of (set uses at to) x ≡ remove (copies_of uses x) (index_in (copies_of uses x) at)
  unfolding copies_of
  copies_took x on off =
      ap (λ n. filter (λ s. holds x (use_at (set uses at to) s)) (range_with_len 0 n)) (length-set uses at to)
      ∙ filter_took (λ s. holds x (use_at (set uses at to) s)) (λ s. holds x (use_at uses s)) at
      (length uses - at - 1) (length uses)
      (λ k other. sym (elsewhere x k other)) whole (here x ∙ off) on

  -- those with it and without it
  pub copies_split : (x : ℕ) → holds x (use_at uses at) ≡ true → holds x to ≡ false
      → (front : List ℕ) × (back : List ℕ) × (copies_of uses x ≡ front ++ at ∷ back)
      × (copies_of (set uses at to) x ≡ front ++ back)
  unfolding copies_of
  copies_split x on off =
      let p = λ (s : ℕ). holds x (use_at (set uses at to) s) in
      let q = λ (s : ℕ). holds x (use_at uses s) in
      let m = length uses - at - 1 in (
        filter p (range_with_len 0 at),
        filter p (range_with_len (at + 1) m),
        with_is p q at m (length uses) (λ k other. sym (elsewhere x k other)) whole (here x ∙ off) on,
        ap (λ n. filter p (range_with_len 0 n)) (length-set uses at to)
            ∙ without_is p q at m (length uses) (λ k other. sym (elsewhere x k other)) whole (here x ∙ off) on,
      )

  -- the copies of the others stay
  pub copies_stay : (x : ℕ) → holds x to ≡ holds x (use_at uses at) → copies_of (set uses at to) x ≡ copies_of uses x
  unfolding copies_of
  copies_stay x same =
      ap (λ n. filter (λ s. holds x (use_at (set uses at to) s)) (range_with_len 0 n)) (length-set uses at to)
      ∙ filter_same (λ s. holds x (use_at (set uses at to) s)) (λ s. holds x (use_at uses s)) 0 (length uses)
      (λ k first last. elim (cases_eq k at) [ inl is ↦ rw is (here x ∙ same) | inr other ↦ sym (elsewhere x k other) ])

-- no slot of a blank flash is a copy
pub copies_none : (n x : ℕ) → copies_of (replicate n Blank) x ≡ []
unfolding copies_of
copies_none n x = filter_none (λ s. holds x (use_at (replicate n Blank) s)) 0 (length (replicate n Blank))
    (λ k. blank_at k)
  where
    blank_at : (k : ℕ) → holds x (use_at (replicate n Blank) k) ≡ false
    blank_at k = elim (cases_lt k n) [
      | inl low ↦ rw (get_or-replicate {A = SlotUse} n k Blank Blank low) refl
      | inr past ↦ rw (get_or_past {X = SlotUse} (replicate n Blank) k Blank
          (rw (length-replicate {A = SlotUse} n Blank) past)) refl
    ]
