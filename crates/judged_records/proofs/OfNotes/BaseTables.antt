-- What the numbered items of a list give, one after the other: with an item more or another one, without a part, in
-- ascending order, and item by item.
use Rattle.judged_records.proofs.Common.{◌≡◌, ℕ, zero, suc, ◌+◌, ◌<◌, Bool, true, false, List, [], ◌∷◌, ◌++◌, length, get_or, set, take, drop, filter, AllPairs, Option, Some, None, cond, ◌⊎◌, refl, sym, ap, ap₂, ◌∙◌, subst, inl, inr, arith, if◌then◌else◌, Contains, cons_option, false≢true, none-some, length-take-le, all_from, Contains-cases, Contains-nil, Contains-rest, IsInserted}
use Rattle.std.proofs.Common.{filter_map}
use Rattle.std.proofs.Common.{unwrap_or}
use Rattle.std.specs.List.{enumerate_from}
use Rattle.std.proofs.lemmas.List.{set_split, set-get_or}
use Rattle.std.proofs.lemmas.List.Kept.{AllPairs-cons}
use Rattle.list_lemmas.proofs.Membership.{Contains-here}

-- what the items give, the first with the number n
abbrev pub given : {X Y : Type 0} → (ℕ × X → Option Y) → ℕ → List X → List Y
given of n xs = filter_map of (enumerate_from n xs)

cons-append : {Y : Type 0} → (o : Option Y) (ys zs : List Y) → cons_option o (ys ++ zs) ≡ cons_option o ys ++ zs
cons-append None ys zs = refl
cons-append (Some y) ys zs = refl

module _ {X Y : Type 0} (of : ℕ × X → Option Y) where
  -- two lists end to end
  pub given-append : (n : ℕ) (xs ys : List X) → given of n (xs ++ ys) ≡ given of n xs ++ given of (n + length xs) ys
  given-append n [] ys = ap (λ k. given of k ys) (omega arith)
  given-append n (x ∷ xs) ys =
      let at : n + 1 + length xs ≡ n + suc (length xs) = omega arith in
      ap (cons_option (of (n, x))) (given-append (n + 1) xs ys ∙ ap (λ k. given of (n + 1) xs ++ given of k ys) at)
      ∙ cons-append (of (n, x)) (given of (n + 1) xs) (given of (n + suc (length xs)) ys)

  -- one item more at the end
  pub given-push : (n : ℕ) (xs : List X) (x : X) → given of n (xs ++ x ∷ []) ≡ given of n xs
      ++ cons_option (of (n + length xs, x)) []
  given-push n xs x = given-append n xs (x ∷ [])

  -- another item in a place
  pub given-set : (n : ℕ) (xs : List X) (i : ℕ) (y : X) → i < length xs →
      given of n (set xs i y) ≡ given of n (take i xs) ++ cons_option (of (n + i, y))
      (given of (n + i + 1) (drop (suc i) xs))
  given-set n xs i y within =
      let as_long : length (take i xs) ≡ i = length-take-le i xs (omega arith) in
      ap (given of n) (set_split xs i y within) ∙ given-append n (take i xs) (y ∷ drop (suc i) xs)
      ∙ ap (λ k. given of n (take i xs) ++ given of k (y ∷ drop (suc i) xs)) (ap (λ k. n + k) as_long)

  -- the item that stands there
  pub given-at : (n : ℕ) (xs : List X) (i : ℕ) (d : X) → i < length xs →
      given of n xs ≡ given of n (take i xs) ++ cons_option (of (n + i, get_or xs i d))
      (given of (n + i + 1) (drop (suc i) xs))
  given-at n xs i d within = ap (given of n) (sym (set-get_or xs i d)) ∙ given-set n xs i (get_or xs i d) within

  -- in place of an item that gave nothing, one that gives something
  pub given-inserted : (n : ℕ) (xs : List X) (i : ℕ) (d y : X) (z : Y) → i < length xs →
      of (n + i, get_or xs i d) ≡ None → of (n + i, y) ≡ Some z →
      IsInserted (given of n xs) z (given of n (set xs i y))
  given-inserted n xs i d y z within none some =
      let before = given of n (take i xs) in
      let after = given of (n + i + 1) (drop (suc i) xs) in
      record {
        before = before;
        after = after;
        was = given-at n xs i d within ∙ ap (λ o. before ++ cons_option o after) none;
        now = given-set n xs i y within ∙ ap (λ o. before ++ cons_option o after) some;
      }

  -- in place of an item that gave nothing, another one that gives nothing
  pub given-unchanged : (n : ℕ) (xs : List X) (i : ℕ) (d y : X) → i < length xs → of (n + i, get_or xs i d) ≡ None →
      of (n + i, y) ≡ None →
      given of n (set xs i y) ≡ given of n xs
  given-unchanged n xs i d y within was now =
      let before = given of n (take i xs) in
      let after = given of (n + i + 1) (drop (suc i) xs) in
      given-set n xs i y within ∙ ap (λ o. before ++ cons_option o after) (now ∙ sym was)
      ∙ sym (given-at n xs i d within)

  -- an item that something comes from
  pub record IsGiven (n : ℕ) (xs : List X) (z : Y) : Type 0 where
    pub at : ℕ
    pub within : at < length xs
    pub from : (d : X) → of (n + at, get_or xs at d) ≡ Some z

  cases_cons : (o : Option Y) (zs : List Y) (z : Y) → Contains (cons_option o zs) z → (o ≡ Some z) ⊎ Contains zs z
  cases_cons None zs z c = inr c
  cases_cons (Some y) zs z c = elim (Contains-cases y zs z c) [ inl e ↦ inl (ap Some e) | inr i ↦ inr i ]

  in_cons : (o : Option Y) (zs : List Y) (z : Y) → (o ≡ Some z) ⊎ Contains zs z → Contains (cons_option o zs) z
  in_cons None zs z (inl e) = absurd (none-some z e)
  in_cons None zs z (inr i) = i
  in_cons (Some y) zs z (inl e) = Contains-here y zs z (ap (λ o. unwrap_or o y) e)
  in_cons (Some y) zs z (inr i) = Contains-rest y zs z i

  pub given_from : (n : ℕ) (xs : List X) (z : Y) → Contains (given of n xs) z → IsGiven n xs z
  given_from n [] z i = absurd (Contains-nil z i)
  given_from n (x ∷ xs) z i = elim (cases_cons (of (n, x)) (given of (n + 1) xs) z i) [
    | inl e ↦ record { at = 0; within = omega arith; from = λ d. subst (λ k. of (k, x) ≡ Some z) (omega arith) e }
    | inr later ↦ (let h = given_from (n + 1) xs z later in
        record {
          at = suc h.at;
          within = (let w = h.within in omega arith);
          from =
              λ d. subst (λ k. of (k, get_or xs h.at d) ≡ Some z) (omega arith) (h.from d);
        })
  ]

  pub given_in : (n : ℕ) (xs : List X) (i : ℕ) (d : X) (z : Y) → i < length xs → of (n + i, get_or xs i d) ≡ Some z →
      Contains (given of n xs) z
  given_in n [] i d z within e = absurd (omega arith)
  given_in n (x ∷ xs) zero d z within e = in_cons (of (n, x)) (given of (n + 1) xs) z
      (inl (subst (λ k. of (k, x) ≡ Some z) (omega arith) e))
  given_in n (x ∷ xs) (suc i) d z within e = in_cons (of (n, x)) (given of (n + 1) xs) z
      (inr (given_in (n + 1) xs i d z (omega arith) (subst (λ k. of (k, get_or xs i d) ≡ Some z) (omega arith) e)))

  module _ (place : Y → ℕ) (placed : (m : ℕ) (x : X) (z : Y) → of (m, x) ≡ Some z → place z ≡ m) where
    ascending_cons : (n : ℕ) (x : X) (o : Option Y) (zs : List Y) → ((z : Y) → o ≡ Some z → place z ≡ n) →
        ((z : Y) → Contains zs z → n < place z) →
        AllPairs (λ y z. place y < place z) zs → AllPairs (λ y z. place y < place z) (cons_option o zs)
    ascending_cons n x None zs first later up = up
    ascending_cons n x (Some y) zs first later up =
        let low = first y refl in
        AllPairs-cons (λ y z. place y < place z) y zs
        (all_from (λ z. place y < place z) zs (λ z i. let high = later z i in omega arith)) up

    -- what is given stands in the order of the numbers
    pub given_ascending : (n : ℕ) (xs : List X) → AllPairs (λ y z. place y < place z) (given of n xs)
    given_ascending n [] = λ i j d lt within. absurd (omega arith)
    given_ascending n (x ∷ xs) =
        ascending_cons n x (of (n, x)) (given of (n + 1) xs) (λ z e. placed n x z e)
        (λ z i. let h = given_from (n + 1) xs z i in let at = placed (n + 1 + h.at) (get_or xs h.at x) z (h.from x) in
        omega arith)
        (given_ascending (n + 1) xs)

    -- a test of the numbers chooses among what is given
    abbrev pub chosen : (ℕ → Bool) → ℕ × X → Option Y
    chosen keep p = if keep p.0 then of p else None

    chosen_none : (b : Bool) (zs : List Y) → zs ≡ cons_option (if b then None else None) zs
    chosen_none true zs = refl
    chosen_none false zs = refl

    chosen_some : (a b : Bool) (y : Y) (zs : List Y) → a ≡ b →
        cond a (y ∷ zs) zs ≡ cons_option (if b then Some y else None) zs
    chosen_some true true y zs e = refl
    chosen_some false false y zs e = refl
    chosen_some true false y zs e = absurd (false≢true (sym e))
    chosen_some false true y zs e = absurd (false≢true e)

    filter_cons : (keep : ℕ → Bool) (n : ℕ) (o : Option Y) (zs : List Y) → ((z : Y) → o ≡ Some z → place z ≡ n) →
        filter (λ z. keep (place z)) (cons_option o zs) ≡ cons_option (if keep n then o else None)
        (filter (λ z. keep (place z)) zs)
    filter_cons keep n None zs first = chosen_none (keep n) (filter (λ z. keep (place z)) zs)
    filter_cons keep n (Some y) zs first = chosen_some (keep (place y)) (keep n) y (filter (λ z. keep (place z)) zs)
        (ap keep (first y refl))

    pub given-chosen : (keep : ℕ → Bool) (n : ℕ) (xs : List X) → filter (λ z. keep (place z)) (given of n xs)
        ≡ given (chosen keep) n xs
    given-chosen keep n [] = refl
    given-chosen keep n (x ∷ xs) =
        filter_cons keep n (of (n, x)) (given of (n + 1) xs) (λ z e. placed n x z e)
        ∙ ap (cons_option (if keep n then of (n, x) else None)) (given-chosen keep (n + 1) xs)

-- items that give the same at each place
pub given_same : {X Z Y : Type 0} (of : ℕ × X → Option Y) (by : ℕ × Z → Option Y) (n : ℕ) (xs : List X) (zs : List Z)
    (d : X) (e : Z) → length xs ≡ length zs →
    ((i : ℕ) → i < length xs → of (n + i, get_or xs i d) ≡ by (n + i, get_or zs i e)) → given of n xs ≡ given by n zs
given_same of by n [] [] d e long same = refl
given_same of by n [] (z ∷ zs) d e long same = absurd (omega arith)
given_same of by n (x ∷ xs) [] d e long same = absurd (omega arith)
given_same of by n (x ∷ xs) (z ∷ zs) d e long same =
    let rest : length xs ≡ length zs = omega arith in
    let here : of (n, x) ≡ by (n, z) = subst (λ k. of (k, x) ≡ by (k, z)) (omega arith) (same 0 (omega arith)) in
    ap₂ cons_option here (given_same of by (n + 1) xs zs d e rest (λ i within.
    subst (λ k. of (k, get_or xs i d) ≡ by (k, get_or zs i e)) (omega arith) (same (suc i) (omega arith))))
