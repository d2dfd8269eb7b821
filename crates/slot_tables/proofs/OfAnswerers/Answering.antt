-- How the counts of the answerers change.
use Rattle.slot_tables.proofs.Common.{◌≡◌, ◌≢◌, ℕ, ◌+◌, ◌<◌, ◌≤◌, Bool, true, false, ◌||◌, ltb, eqb, inl, inr, Option, Some, None, List, [], ◌∷◌, length, get_or, set, count_by, refl, sym, ◌∙◌, ap, arith, length-set, IfSome, cases_eq, nat_tests, get_or-set_same, get_or-set_other, sum_by-set, one_of, number_at, is_number}
use Rattle.std.specs.List.{list_any}
use Rattle.std.proofs.lemmas.List.Sums.{sum_by-cons, count_by-le-length}
use Rattle.slot_tables.specs.Responsibilities.{AreCounted}

-- some item passes where some are counted
pub any_counted : {X : Type 0} (p : X → Bool) (xs : List X) → list_any p xs ≡ ltb 0 (count_by p xs)
any_counted p [] = refl
any_counted p (x ∷ xs) = first (any_counted p xs) (p x) refl
  where
    counted : count_by p (x ∷ xs) ≡ one_of (p x) + count_by p xs
    counted = sum_by-cons (λ y. one_of (p y)) x xs

    positive : (n k : ℕ) → n ≡ 1 + k → ltb 0 n ≡ true
    positive n k e = grind (arith, nat_tests)

    first : list_any p xs ≡ ltb 0 (count_by p xs) → (b : Bool) → p x ≡ b →
        (b || list_any p xs) ≡ ltb 0 (count_by p (x ∷ xs))
    first rest true is = sym (positive (count_by p (x ∷ xs)) (count_by p xs) (counted
        ∙ ap (λ c. one_of c + count_by p xs) is))
    first rest false is = rest ∙ ap (ltb 0) (sym (counted ∙ ap (λ c. one_of c + count_by p xs) is ∙ (omega arith)))

-- a number that an entry has is counted there
pub is_counted : (x : ℕ) → one_of (is_number x (Some x)) ≡ 1
is_counted x = let same : eqb x x ≡ true = grind (arith, nat_tests) in rw same refl

not_counted : (x y : ℕ) → x ≢ y → one_of (is_number x (Some y)) ≡ 0
not_counted x y other = let no : eqb y x ≡ false = grind (arith, nat_tests) in rw no refl

module _ (its : List (Option ℕ)) (counts : List ℕ) (h : AreCounted its counts) (number : ℕ)
    (low : number < length its) where
  -- what an entry changes in each count
  changed : (to : Option ℕ) (x : ℕ) → count_by (is_number x) (set its number to) + one_of
      (is_number x (number_at its number)) ≡ count_by
      (is_number x) its + one_of (is_number x to)
  changed to x = sum_by-set (λ a. one_of (is_number x a)) its number to None low

  -- the entry has an answerer, which is counted
  pub some_counted : (x : ℕ) → number_at its number ≡ Some x → 1 ≤ get_or counts x 0
  some_counted x is =
      let gone = changed None x in
      let one : one_of (is_number x (number_at its number)) ≡ 1 = rw is (is_counted x) in
      omega (arith, gone, one, h.counts x (h.within number x is))

  -- it is taken away
  pub taken : (x count : ℕ) → number_at its number ≡ Some x → count + 1 ≡ get_or counts x 0 →
      AreCounted (set its number None) (set counts x count)
  taken x count is less = record {
    small = rw (length-set its number None) h.small;
    sizes = length-set counts x count ∙ h.sizes ∙ sym (length-set its number None);
    within = λ y z e. rw (length-set its number None) (left y z e);
    counts = λ z lies.
        let gone = changed None z in
        let zlies : z < length its = rw (length-set its number None) at lies in
        let was = h.counts z zlies in
        elim (cases_eq z x) [
          | inl here ↦
              let one : one_of (is_number z (number_at its number)) ≡ 1 = rw (is, here) (is_counted x) in
              let new : get_or (set counts x count) z 0 ≡ count =
              rw here (get_or-set_same counts x count 0 (rw h.sizes (rw here at zlies))) in
              let less_here : count + 1 ≡ get_or counts z 0 = rw here less in
              omega (arith, gone, was, one, new, less_here)
          | inr other ↦
              let none : one_of (is_number z (number_at its number)) ≡ 0 = rw is (not_counted z x other) in
              let new = get_or-set_other counts x z count 0 other in
              omega (arith, gone, was, none, new)
        ];
  }
    where
      left : (y z : ℕ) → number_at (set its number None) y ≡ Some z → z < length its
      left y z e = elim (cases_eq y number) [
        | inl here ↦ absurd (let none : None ≡ Some z = sym (get_or-set_same its number None None low)
            ∙ rw here at e in cc)
        | inr other ↦ h.within y z (sym (get_or-set_other its number y None None other) ∙ e)
      ]

  -- an entry that had none has one
  pub put : (x count : ℕ) → number_at its number ≡ None → x < length its → count ≡ get_or counts x 0 + 1
      → AreCounted (set its number (Some x)) (set counts x count)
  put x count is xlies more = record {
    small = rw (length-set its number (Some x)) h.small;
    sizes = length-set counts x count ∙ h.sizes ∙ sym (length-set its number (Some x));
    within = λ y z e. rw (length-set its number (Some x)) (left y z e);
    counts = λ z lies.
        let come = changed (Some x) z in
        let zlies : z < length its = rw (length-set its number (Some x)) at lies in
        let was = h.counts z zlies in
        let none : one_of (is_number z (number_at its number)) ≡ 0 = rw is refl in
        elim (cases_eq z x) [
          | inl here ↦
              let one : one_of (is_number z (Some x)) ≡ 1 = rw here (is_counted x) in
              let new : get_or (set counts x count) z 0 ≡ count =
              rw here (get_or-set_same counts x count 0 (rw h.sizes xlies)) in
              let more_here : count ≡ get_or counts z 0 + 1 = rw here more in
              omega (arith, come, was, none, one, new, more_here)
          | inr other ↦
              let off : one_of (is_number z (Some x)) ≡ 0 = not_counted z x other in
              let new = get_or-set_other counts x z count 0 other in
              omega (arith, come, was, none, off, new)
        ];
  }
    where
      left : (y z : ℕ) → number_at (set its number (Some x)) y ≡ Some z → z < length its
      left y z e = elim (cases_eq y number) [
        | inl here ↦ (let same : Some x ≡ Some z = sym (get_or-set_same its number (Some x) None low)
            ∙ rw here at e in let xz : x ≡ z = cc in rw (← xz) xlies)
        | inr other ↦ h.within y z (sym (get_or-set_other its number y (Some x) None other) ∙ e)
      ]

  -- no count is above the number of entries
  pub count_most : (x : ℕ) → x < length its → get_or counts x 0 ≤ 65536
  count_most x lies = omega (arith, h.counts x lies, h.small, count_by-le-length (is_number x) its)

-- an answerer is one of the numbers
pub entry_within : (its : List (Option ℕ)) (counts : List ℕ) → AreCounted its counts → (number : ℕ) →
    IfSome (number_at its number)
    (λ x. x < length its)
entry_within its counts h number = by (number_at its number) refl
  where
    by : (o : Option ℕ) → number_at its number ≡ o → IfSome o (λ x. x < length its)
    by None e = tt
    by (Some x) e = h.within number x e
