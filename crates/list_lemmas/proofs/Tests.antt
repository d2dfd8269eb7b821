-- Tests of the items of a list: whether one passes, which comes first, and how many do.
use Rattle.std.proofs.Common.{◌≡◌, Bool, true, List, Contains, ◌||◌, [], ◌∷◌, refl, ap₂, inl, inr, false, sym, ap, ◌∙◌, ◌++◌, ℕ, ◌<◌, eqb, subst, eqb-true}
use Rattle.std.proofs.Common.{length, get_or, find, Some, ◌≤◌, None, cond, Option, filter, ◌+◌, arith}
use Rattle.std.specs.List.{list_any, AllByRecursion, position_or_len}
use Rattle.std.specs.Prelude.{position, All, count_by}
use Rattle.std.proofs.lemmas.Bool.{false_from_ne_true, false≢true, or_cases, cases_lt, lt-ltb, le-ltb, cases_Bool, cond-true, cond-false, cond_both}
use Rattle.std.proofs.lemmas.List.Elements.{All-head, All-tail, All-nil, All-cons}
use Rattle.std.proofs.lemmas.List.Folds.{Any-from_list_any, list_any-from_Any, list_any-append, find_at}
use Rattle.std.proofs.lemmas.List.Sums.{sum_by-cons}
use Rattle.std.proofs.lemmas.Option.{slice_get-get_or, slice_get_past, same_Some, none-some}
use Rattle.list_lemmas.proofs.Membership.{Contains-nil, Contains-first, Contains-rest, Contains-cases, Contains-here, in_any, any_in}

-- some item passes a test
pub any_of : {X : Type 0} (test : X → Bool) (l : List X) → list_any test l ≡ true → (x : X) × Contains l x
    × (test x ≡ true)
any_of test l h = in_any (λ x. test x ≡ true) l (Any-from_list_any test l h)

-- and the other way round
pub any_from : {X : Type 0} (test : X → Bool) (l : List X) (x : X) → Contains l x → test x ≡ true →
    list_any test l ≡ true
any_from test l x c h = list_any-from_Any test l (any_in (λ x. test x ≡ true) l x c h)

-- two tests that agree at each item pass alike
pub any_same : {X : Type 0} (test test' : X → Bool) (l : List X) → ((x : X) → test x ≡ test' x) →
    list_any test l ≡ list_any test' l
any_same test test' [] h = refl
any_same test test' (x ∷ xs) h = ap₂ (λ a b. a || b) (h x) (any_same test test' xs h)

-- two tests that agree on the items of a list
pub any_same_in : {X : Type 0} (test test' : X → Bool) (l : List X) → ((x : X) → Contains l x → test x ≡ test' x) →
    list_any test l ≡ list_any test' l
any_same_in test test' [] h = refl
any_same_in test test' (x ∷ xs) h = ap₂ (λ a b. a || b) (h x (Contains-first x xs))
    (any_same_in test test' xs (λ y i. h y (Contains-rest x xs y i)))

-- a test that no item passes fails for each
pub any_none : {X : Type 0} (p : X → Bool) (xs : List X) → list_any p xs ≡ false → (x : X) → Contains xs x → p x ≡ false
any_none p xs h x i = false_from_ne_true (p x) (λ pass. false≢true (sym h ∙ any_from p xs x i pass))

-- which of two tests comes first does not matter
or_swap : (a b c : Bool) → (a || (b || c)) ≡ (b || (a || c))
or_swap true true c = refl
or_swap true false c = refl
or_swap false true c = refl
or_swap false false c = refl

module _ {X : Type 0} where
  -- a test over a list with one item more
  pub any_more : (test : X → Bool) (x : X) (before after : List X) →
      list_any test (before ++ x ∷ after) ≡ (test x || list_any test (before ++ after))
  any_more test x before after =
      list_any-append test before (x ∷ after)
      ∙ or_swap (list_any test before) (test x) (list_any test after)
      ∙ ap (λ b. test x || b) (sym (list_any-append test before after))

-- a number among some below n is below n
pub below_any : (xs : List ℕ) (n q : ℕ) → AllByRecursion (λ x. x < n) xs → list_any (eqb q) xs ≡ true → q < n
below_any [] n q a h = absurd (false≢true h)
below_any (x ∷ xs) n q a h = elim (or_cases (eqb q x) (list_any (eqb q) xs) h) [
  | inl e ↦ subst (λ y. y < n) (sym (eqb-true q x e)) a.0
  | inr more ↦ below_any xs n q a.1 more
]

module _ {X : Type 0} (p : X → Bool) where
  -- what stands at the first place that passes is found
  find_here : (xs : List X) (d : X) → position_or_len p xs < length xs →
      find p xs ≡ Some (get_or xs (position_or_len p xs) d)
  find_here xs d within = find_at p xs ∙ slice_get-get_or xs (position_or_len p xs) d within

  -- where there is none, nothing is found
  find_nowhere : (xs : List X) → length xs ≤ position_or_len p xs → find p xs ≡ None
  find_nowhere xs all = find_at p xs ∙ slice_get_past xs (position_or_len p xs) all

  -- what is found stands at that place
  pub find-position : (xs : List X) (i : ℕ) (d : X) → position p xs ≡ Some i → find p xs ≡ Some (get_or xs i d)
  find-position xs i d is = elim (cases_lt (position_or_len p xs) (length xs)) [
    | inl within ↦
        let here : position p xs ≡ Some (position_or_len p xs) = ap (λ b. cond b (Some (position_or_len p xs)) None)
        (lt-ltb (position_or_len p xs) (length xs) within) in
        find_here xs d within ∙ ap (λ k. Some (get_or xs k d)) (same_Some (position_or_len p xs) i (sym here ∙ is))
    | inr all ↦
        let none : position p xs ≡ None = ap (λ b. cond b (Some (position_or_len p xs)) None)
        (le-ltb (position_or_len p xs) (length xs) all) in
        absurd cc
  ]

  -- and nothing is found where there is no place
  pub find-no_position : (xs : List X) → position p xs ≡ None → find p xs ≡ None
  find-no_position xs is = elim (cases_lt (position_or_len p xs) (length xs)) [
    | inl within ↦
        let here : position p xs ≡ Some (position_or_len p xs) = ap (λ b. cond b (Some (position_or_len p xs)) None)
        (lt-ltb (position_or_len p xs) (length xs) within) in
        absurd cc
    | inr all ↦ find_nowhere xs all
  ]

-- what is found is in the list, and passes
pub find_stands : {X : Type 0} (p : X → Bool) (xs : List X) (x : X) → find p xs ≡ Some x → Contains xs x × (p x ≡ true)
find_stands p [] x e = absurd (none-some x e)
find_stands p (y ∷ ys) x e = elim (cases_Bool (p y)) [
  | inl passes ↦
      let same : y ≡ x = same_Some y x (sym (cond-true (p y) (Some y) (find p ys) passes) ∙ e) in
      (Contains-here y ys x same, ap p (sym same) ∙ passes)
  | inr fails ↦
      let rest = find_stands p ys x (sym (cond-false (p y) (Some y) (find p ys) fails) ∙ e) in
      (Contains-rest y ys x rest.0, rest.1)
]

-- where neither gives anything
pub none_parts : {X : Type 0} (b : Bool) (e : X) (rest : Option X) → cond b (Some e) rest ≡ None →
    (b ≡ false) × (rest ≡ None)
none_parts true e rest h = cc
none_parts false e rest h = (refl, h)

-- a test that finds nothing fails for each
pub none_found : {X : Type 0} (p : X → Bool) (xs : List X) → find p xs ≡ None → (x : X) → Contains xs x → p x ≡ false
none_found p [] h x c = absurd (Contains-nil x c)
none_found p (y ∷ ys) h x c =
    let none = none_parts (p y) y (find p ys) h in
    elim (Contains-cases y ys x c) [ inl same ↦ ap p (sym same) ∙ none.0 | inr i ↦ none_found p ys none.1 x i ]

-- an item that fails a test is not found by it
pub find_more : {X : Type 0} (test : X → Bool) (x : X) (before after : List X) → test x ≡ false →
    find test (before ++ x ∷ after) ≡ find test (before ++ after)
find_more test x [] after fail = cond-false (test x) (Some x) (find test after) fail
find_more test x (y ∷ ys) after fail = ap (λ o. cond (test y) (Some y) o) (find_more test x ys after fail)

-- a test that finds only what stays finds the same in what is left
pub find_left : {X : Type 0} (test keep : X → Bool) (l : List X) → ((x : X) → test x ≡ true → keep x ≡ true) →
    find test (filter keep l) ≡ find test l
find_left test keep [] h = refl
find_left test keep (x ∷ xs) h =
    let ih = find_left test keep xs h in
    elim (cases_Bool (test x)) [
      | inl pass' ↦ ap (find test) (cond-true (keep x) (x ∷ filter keep xs) (filter keep xs) (h x pass'))
          ∙ cond-true (test x) (Some x) (find test (filter keep xs)) pass'
          ∙ sym (cond-true (test x) (Some x) (find test xs) pass')
      | inr fail ↦ cond_both (keep x) (x ∷ filter keep xs) (filter keep xs) (λ l. find test l ≡ find test (x ∷ xs))
          (λ e. cond-false (test x) (Some x) (find test (filter keep xs)) fail ∙ ih
          ∙ sym (cond-false (test x) (Some x) (find test xs) fail))
          (λ e. ih ∙ sym (cond-false (test x) (Some x) (find test xs) fail))
    ]

-- Nothing is counted where nothing passes, and back
pub none_counted : {X : Type 0} (test : X → Bool) (xs : List X) → All (λ x. test x ≡ false) xs → count_by test xs ≡ 0
none_counted test [] h = refl
none_counted test (x ∷ xs) h =
    let split : count_by test (x ∷ xs) ≡ cond (test x) 1 0 + count_by test xs =
    sum_by-cons (λ y. cond (test y) 1 0) x xs in
    let here : ◌≡◌ {A = ℕ} (cond {A = ℕ} (test x) 1 0) 0 = ap (λ (b : Bool). cond {A = ℕ} b 1 0)
    (All-head (λ x. test x ≡ false) x xs h) in
    let rest = none_counted test xs (All-tail (λ x. test x ≡ false) x xs h) in omega (arith, split, here, rest)

-- one test and a count
none_passes : (b : Bool) (n : ℕ) → cond b 1 0 + n ≤ 0 → (b ≡ false) × (n ≤ 0)
none_passes true n h = absurd (omega arith)
none_passes false n h = (refl, omega arith)

-- and back
pub all_uncounted : {X : Type 0} (test : X → Bool) (xs : List X) → count_by test xs ≤ 0 → All (λ x. test x ≡ false) xs
all_uncounted test [] h = All-nil (λ x. test x ≡ false)
all_uncounted test (x ∷ xs) h =
    let split : count_by test (x ∷ xs) ≡ cond (test x) 1 0 + count_by test xs =
    sum_by-cons (λ y. cond (test y) 1 0) x xs in
    let both = none_passes (test x) (count_by test xs) (omega (arith, split, h)) in
    All-cons (λ x. test x ≡ false) x xs both.0 (all_uncounted test xs both.1)
