-- One list of places that is linked both ways: its order follows from the links, and what a change of them makes of it.
use Rattle.dense_tables.proofs.Common.{◌≡◌, ◌≢◌, ℕ, zero, suc, ◌+◌, ◌<◌, ◌≤◌, inl, inr, true, List, [], ◌∷◌, length, get_or, ltb, eqb, refl, sym, ◌∙◌, ap, arith, remove, cases_lt, cases_eq, nat_tests, get_or_past, get_or_default, index_in}
use Rattle.std.proofs.Common.{false}
use Rattle.std.specs.List.{insert, list_any}
use Rattle.std.proofs.lemmas.Bool.Decides.{eqb_tells}
use Rattle.std.proofs.lemmas.Map.Keys.{IsDistinct-from_apart}
use Rattle.std.proofs.lemmas.Map.Steps.{length-le_from_distinct_below}
use Rattle.std.proofs.lemmas.List.Edits.{length-insert, get_or-insert_below, get_or-insert_at, get_or-insert_above, length-remove, get_or-remove_below}
use Rattle.std.proofs.lemmas.List.Edits.{get_or-remove_above}
use Rattle.std.proofs.lemmas.List.Sums.{position_or_len_is}
use Rattle.dense_tables.specs.Links.{path, IsLinked}

-- what follows the first place of a list is a linked list, and the first place its root
pub linked_rest : (next before : List ℕ) (root x : ℕ) (xs : List ℕ) → IsLinked next before root (x ∷ xs) →
    IsLinked next before x xs
linked_rest next before root x xs h = record {
  within = λ k below. h.within (suc k) (omega arith);
  forth = λ k below. h.forth (suc k) (omega arith);
  back = λ k below. h.back (suc k) (omega arith);
}

-- following `next` from the root on gives the list
pub path_is : (next before : List ℕ) (root : ℕ) (xs : List ℕ) (fuel : ℕ) → IsLinked next before root xs →
    length xs ≤ fuel
    → path next (length before) fuel (get_or next root 0) ≡ xs
unfolding path
path_is next before root [] zero h fits = refl
path_is next before root [] (suc fuel) h fits =
    let ends : get_or next root 0 ≡ length before = h.forth 0 (omega arith) in
    let past : ltb (length before) (length before) ≡ false = grind (arith, nat_tests) in
    rw (ends, past) refl
path_is next before root (x ∷ xs) zero h fits = absurd (omega arith)
path_is next before root (x ∷ xs) (suc fuel) h fits =
    let first : get_or next root 0 ≡ x = h.forth 0 (omega arith) in
    let below : x < length before = h.within 0 (omega arith) in
    let is_place : ltb x (length before) ≡ true = grind (arith, nat_tests) in
    rw (first, is_place) (ap (λ rest. x ∷ rest) (path_is next before x xs fuel (linked_rest next before root x xs h)
    (omega arith)))

module _ (next before : List ℕ) (root other : ℕ) (xs ys : List ℕ) (h : IsLinked next before root xs)
    (g : IsLinked next before other ys)
    (is_root : length before ≤ root) (is_other : length before ≤ other) where
  -- a place that stands in two lists stands at one index in both, and they have one root: the way back tells
  pub same_place : (i j : ℕ) → i < length xs → j < length ys → get_or xs i 0 ≡ get_or ys j 0 → (root ≡ other) × (i ≡ j)
  same_place zero zero l m e = let same = ap (λ n. get_or before n 0) e in let a = h.back 0 l in
      let b = g.back 0 m in (cc, refl)
  same_place zero (suc j) l m e =
      let same = ap (λ n. get_or before n 0) e in
      let a = h.back 0 l in
      let b = g.back (suc j) m in
      let low = g.within j (omega arith) in
      let is : root ≡ get_or ys j 0 = cc in
      absurd (omega arith)
  same_place (suc i) zero l m e =
      let same = ap (λ n. get_or before n 0) e in
      let a = h.back (suc i) l in
      let b = g.back 0 m in
      let low = h.within i (omega arith) in
      let is : other ≡ get_or xs i 0 = cc in
      absurd (omega arith)
  same_place (suc i) (suc j) l m e =
      let same = ap (λ n. get_or before n 0) e in
      let a = h.back (suc i) l in
      let b = g.back (suc j) m in
      let is : get_or xs i 0 ≡ get_or ys j 0 = cc in
      let both = same_place i j (omega arith) (omega arith) is in
      (both.0, ap suc both.1)

  -- a number among the places of two lists with their roots stands at one index in both, and they have one root
  pub same_number : (i j : ℕ) → i ≤ length xs → j ≤ length ys → get_or (root ∷ xs) i 0 ≡ get_or (other ∷ ys) j 0 →
      (root ≡ other) × (i ≡ j)
  same_number zero zero l m e = (e, refl)
  same_number zero (suc j) l m e = let low = g.within j (omega arith) in absurd (omega arith)
  same_number (suc i) zero l m e = let low = h.within i (omega arith) in absurd (omega arith)
  same_number (suc i) (suc j) l m e = let both = same_place i j (omega arith) (omega arith) e in (both.0, ap suc both.1)

-- a list stays linked where its links stay
pub linked_still : (next before next' before' : List ℕ) (root : ℕ) (xs : List ℕ) → IsLinked next before root xs →
    length before' ≡ length before
    → ((k : ℕ) → k ≤ length xs → get_or next' (get_or (root ∷ xs) k 0) 0 ≡ get_or next (get_or (root ∷ xs) k 0) 0)
    → ((k : ℕ) → k < length xs → get_or before' (get_or xs k 0) 0 ≡ get_or before (get_or xs k 0) 0)
    → IsLinked next' before' root xs
linked_still next before next' before' root xs h size forth back = record {
  within = λ k below. rw size (h.within k below);
  forth = λ k below. rw size (forth k below ∙ h.forth k below);
  back = λ k below. back k below ∙ h.back k below;
}

module _ (next before : List ℕ) (root : ℕ) (xs : List ℕ) (h : IsLinked next before root xs)
    (is_root : length before ≤ root) where
  -- no place stands in it twice
  pub index_once : (i j : ℕ) → i < length xs → j < length xs → get_or xs i 0 ≡ get_or xs j 0 → i ≡ j
  index_once i j l m e = (same_place next before root root xs xs h h is_root is_root i j l m e).1

  pub number_once : (i j : ℕ) → i ≤ length xs → j ≤ length xs → get_or (root ∷ xs) i 0 ≡ get_or (root ∷ xs) j 0 → i ≡ j
  number_once i j l m e = (same_number next before root root xs xs h h is_root is_root i j l m e).1

  -- so the place at an index is first found there
  pub index_is : (i at : ℕ) → i < length xs → get_or xs i 0 ≡ at → index_in xs at ≡ i
  index_is i at l e =
      position_or_len_is (λ x. eqb x at) xs i 0 (omega arith)
      (λ k sooner. let apart : get_or xs k 0 ≢ at = λ same. let is = index_once k i (omega arith) l (same ∙ sym e) in
      omega arith in grind (arith, nat_tests))
      (λ _. grind (arith, nat_tests))

-- the length of a linked list
pub length_linked : (next before : List ℕ) (root : ℕ) (xs : List ℕ) → IsLinked next before root xs →
    length before ≤ root → length xs ≤ length before
length_linked next before root xs h is_root =
    length-le_from_distinct_below xs (length before)
    (IsDistinct-from_apart eqb xs (λ i j d sooner below.
    let here = get_or_default xs i d 0 (omega arith) in
    let there = get_or_default xs j d 0 below in
    let apart : get_or xs i 0 ≢ get_or xs j 0 = λ e. let is = index_once next before root xs h is_root i j (omega arith)
    below e in omega arith in
    rw (here, there) (grind (arith, nat_tests))))
    (λ q among. let at = place_among q xs among in rw (← at.2) (h.within at.0 at.1))
  where
    place_among : (q : ℕ) (ys : List ℕ) → list_any (eqb q) ys ≡ true → (k : ℕ) × (k < length ys) × (get_or ys k 0 ≡ q)
    place_among q [] e = cc
    place_among q (y ∷ ys) e = elim (eqb_tells q y) [
      | inl same ↦ (0, omega arith, sym same.1)
      | inr other ↦ let rest = place_among q ys (rw other.0 at e) in (suc rest.0, omega (arith, rest.1), rest.2)
    ]

-- the links after a place was put behind a number
pub record PutsBehind (next before next' before' : List ℕ) (behind at : ℕ) : Type 0 where
  pub size : length before' ≡ length before
  pub next_at : get_or next' at 0 ≡ get_or next behind 0
  pub next_behind : get_or next' behind 0 ≡ at
  pub next_other : (v : ℕ) → v ≢ at → v ≢ behind → get_or next' v 0 ≡ get_or next v 0
  pub before_at : get_or before' at 0 ≡ behind
  pub before_after : get_or next behind 0 < length before → get_or before' (get_or next behind 0) 0 ≡ at
  pub before_other : (v : ℕ) → v ≢ at → v ≢ get_or next behind 0 → get_or before' v 0 ≡ get_or before v 0

-- the links after a place was taken out
pub record TakesOut (next before next' before' : List ℕ) (at : ℕ) : Type 0 where
  pub size : length before' ≡ length before
  pub next_behind : get_or next' (get_or before at 0) 0 ≡ get_or next at 0
  pub next_other : (v : ℕ) → v ≢ get_or before at 0 → get_or next' v 0 ≡ get_or next v 0
  pub before_after : get_or next at 0 < length before → get_or before' (get_or next at 0) 0 ≡ get_or before at 0
  pub before_other : (v : ℕ) → v ≢ get_or next at 0 → get_or before' v 0 ≡ get_or before v 0

-- one index comes before another one, is it, or comes after it
data IndexCases (k i : ℕ) : Type 0 where
  sooner : k < i → IndexCases k i
  here : k ≡ i → IndexCases k i
  later : (j : ℕ) → k ≡ suc j → i ≤ j → IndexCases k i

index_cases : (k i : ℕ) → IndexCases k i
index_cases zero zero = here refl
index_cases zero (suc i) = sooner (omega arith)
index_cases (suc k) i = elim (cases_lt k i) [
  | inl low ↦ elim (cases_eq (suc k) i) [ inl same ↦ here same | inr apart ↦ sooner (omega arith) ]
  | inr high ↦ later k refl high
]

-- what stands behind a new element
behind_insert : (xs : List ℕ) (i y d k : ℕ) → i ≤ k → i ≤ length xs → get_or (insert xs i y) (suc k) d ≡ get_or xs k d
behind_insert xs i y d k low l = let e : suc k ≡ k + 1 = omega arith in rw e (get_or-insert_above xs i y d k low l)

-- what stands behind an element that is taken out
behind_remove : (xs : List ℕ) (i d k : ℕ) → i ≤ k → i < length xs → get_or (remove xs i) k d ≡ get_or xs (suc k) d
behind_remove xs i d k low l = let e : suc k ≡ k + 1 = omega arith in rw e (get_or-remove_above xs i d k low l)

module _ (next before : List ℕ) (root : ℕ) (xs : List ℕ) (h : IsLinked next before root xs)
    (is_root : length before ≤ root)
    (roots : length before ≤ length next) (lies : root < length next) where
  -- the number behind which index i stands
  abbrev ahead : ℕ → ℕ
  ahead i = get_or (root ∷ xs) i 0

  -- what `next` has behind it
  abbrev after : ℕ → ℕ
  after i = get_or next (ahead i) 0

  -- another place of the list is not what follows index i
  not_after : (i k : ℕ) → i ≤ length xs → k < length xs → k ≢ i → get_or xs k 0 ≢ after i
  not_after i k l m apart e =
      elim (cases_lt i (length xs)) [
        | inl inside ↦
            let is : get_or xs k 0 ≡ get_or xs i 0 = e ∙ h.forth i l ∙ get_or_default xs i (length before) 0 inside in
            apart (index_once next before root xs h is_root k i m inside is)
        | inr past ↦
            let is : get_or xs k 0 ≡ length before = e ∙ h.forth i l ∙ get_or_past xs i (length before) past in
            let low = h.within k m in
            omega arith
      ]

  -- a place that does not stand in it is put in at an index
  pub linked_insert : (next' before' : List ℕ) (i at : ℕ) → i ≤ length xs → at < length before →
      ((k : ℕ) → k < length xs → get_or xs k 0 ≢ at)
      → PutsBehind next before next' before' (ahead i) at → IsLinked next' before' root (insert xs i at)
  linked_insert next' before' i at l place free put = record {
    within = λ k m. elim (index_cases k i) [
      | sooner low ↦ rw (put.size, get_or-insert_below xs i at 0 k low l) (h.within k (omega arith))
      | here e ↦ rw (put.size, e, get_or-insert_at xs i at 0 l) place
      | later j e low ↦ rw (put.size, e, behind_insert xs i at 0 j low l) (h.within j (omega (arith, long)))
    ];
    forth = λ k m. elim (index_cases k i) [
      | sooner low ↦
          rw (
            put.size,
            get_or-insert_below xs i at (length before) k low l,
            get_or-insert_below (root ∷ xs) (suc i) at 0 k (omega arith) (omega arith),
          )
          (next_still k (omega arith) (λ e. omega arith) ∙ h.forth k (omega arith))
      | here e ↦ rw (
        put.size,
        e,
        get_or-insert_at xs i at (length before) l,
        get_or-insert_below (root ∷ xs) (suc i) at 0 i (omega arith) (omega arith),
      )
          put.next_behind
      | later j e low ↦ rw (put.size, e, behind_insert xs i at (length before) j low l)
          (forth_later j low (omega (arith, long)))
    ];
    back = λ k m. elim (index_cases k i) [
      | sooner low ↦
          rw (
            get_or-insert_below xs i at 0 k low l,
            get_or-insert_below (root ∷ xs) (suc i) at 0 k (omega arith)
                (omega arith),
          )
          (before_still k (omega arith) (λ e. omega arith))
      | here e ↦ rw (
        e,
        get_or-insert_at xs i at 0 l,
        get_or-insert_below (root ∷ xs) (suc i) at 0 i (omega arith)
            (omega arith),
      ) put.before_at
      | later j e low ↦ rw (e, behind_insert xs i at 0 j low l) (back_later j low (omega (arith, long)))
    ];
  }
    where
      long : length (insert xs i at) ≡ length xs + 1
      long = length-insert xs i at l

      ahead_free : (k : ℕ) → k ≤ length xs → ahead k ≢ at
      ahead_free zero m e = omega arith
      ahead_free (suc k) m e = free k (omega arith) e

      next_still : (k : ℕ) → k ≤ length xs → k ≢ i → get_or next' (ahead k) 0 ≡ get_or next (ahead k) 0
      next_still k m apart = put.next_other (ahead k) (ahead_free k m)
          (λ e. apart (number_once next before root xs h is_root k i m l e))

      before_still : (k : ℕ) → k < length xs → k ≢ i → get_or before' (get_or xs k 0) 0 ≡ ahead k
      before_still k m apart = put.before_other (get_or xs k 0) (free k m) (not_after i k l m apart) ∙ h.back k m

      forth_later : (j : ℕ) → i ≤ j → j ≤ length xs → get_or next' (get_or (insert xs i at) j 0) 0
          ≡ get_or xs j (length before)
      forth_later j low m = elim (index_cases j i) [
        | sooner high ↦ absurd (omega arith)
        | here e ↦ rw (e, get_or-insert_at xs i at 0 l) (put.next_at ∙ h.forth i l)
        | later n e above ↦ rw (e, behind_insert xs i at 0 n above l)
            (next_still (suc n) (omega arith) (λ same. omega arith) ∙ h.forth (suc n) (omega arith))
      ]

      back_later : (j : ℕ) → i ≤ j → j < length xs → get_or before' (get_or xs j 0) 0 ≡ get_or (insert xs i at) j 0
      back_later j low m = elim (index_cases j i) [
        | sooner high ↦ absurd (omega arith)
        | here e ↦
            let is : after i ≡ get_or xs i 0 = h.forth i l ∙ get_or_default xs i (length before) 0 (omega arith) in
            rw (e, get_or-insert_at xs i at 0 l, ← is) (put.before_after (rw is (h.within i (omega arith))))
        | later n e above ↦ rw (e, behind_insert xs i at 0 n above l)
            (before_still (suc n) (omega arith) (λ same. omega arith))
      ]

  -- the place at an index is taken out
  pub linked_remove : (next' before' : List ℕ) (i : ℕ) → i < length xs →
      TakesOut next before next' before' (get_or xs i 0)
      → IsLinked next' before' root (remove xs i)
  linked_remove next' before' i l out = record {
    within = λ k m. elim (cases_lt k i) [
      | inl low ↦ rw (out.size, get_or-remove_below xs i 0 k low l) (h.within k (omega arith))
      | inr high ↦ rw (out.size, behind_remove xs i 0 k high l) (h.within (suc k) (omega (arith, short)))
    ];
    forth = λ k m. elim (index_cases k i) [
      | sooner low ↦
          rw (
            out.size,
            get_or-remove_below xs i (length before) k low l,
            get_or-remove_below (root ∷ xs) (suc i) 0 k (omega arith) (omega arith),
          )
          (next_still k (omega arith) (λ e. omega arith) ∙ h.forth k (omega arith))
      | here e ↦
          rw (
            out.size,
            e,
            behind_remove xs i (length before) i (omega arith) l,
            get_or-remove_below (root ∷ xs) (suc i) 0 i (omega arith) (omega arith),
          )
          (rw (h.back i l) at out.next_behind ∙ h.forth (suc i) (omega arith))
      | later j e low ↦ rw (
        out.size,
        e,
        behind_remove xs i (length before) (suc j) (omega arith) l,
        behind_remove xs i 0 j low l,
      )
          (next_still (suc (suc j)) (omega (arith, short)) (λ same. omega arith)
          ∙ h.forth (suc (suc j)) (omega (arith, short)))
    ];
    back = λ k m. elim (index_cases k i) [
      | sooner low ↦
          rw (
            get_or-remove_below xs i 0 k low l,
            get_or-remove_below (root ∷ xs) (suc i) 0 k (omega arith)
                (omega arith),
          )
          (before_still k (omega arith) (λ e. omega arith))
      | here e ↦
          let is : get_or next (get_or xs i 0) 0 ≡ get_or xs (suc i) 0 = h.forth (suc i) (omega arith) ∙
          get_or_default xs (suc i) (length before) 0 (omega (arith, short)) in
          rw (
            e,
            behind_remove xs i 0 i (omega arith) l,
            get_or-remove_below (root ∷ xs) (suc i) 0 i (omega arith) (omega arith),
            ← is,
          )
          (out.before_after (rw is (h.within (suc i) (omega (arith, short)))) ∙ h.back i l)
      | later j e low ↦ rw (e, behind_remove xs i 0 (suc j) (omega arith) l, behind_remove xs i 0 j low l)
          (before_still (suc (suc j)) (omega (arith, short)) (λ same. omega arith))
    ];
  }
    where
      short : length (remove xs i) + 1 ≡ length xs
      short = length-remove xs i l

      next_still : (k : ℕ) → k ≤ length xs → k ≢ i → get_or next' (ahead k) 0 ≡ get_or next (ahead k) 0
      next_still k m apart = out.next_other (ahead k)
          (λ e. apart (number_once next before root xs h is_root k i m (omega arith) (e ∙ h.back i l)))

      before_still : (k : ℕ) → k < length xs → k ≢ suc i → get_or before' (get_or xs k 0) 0 ≡ ahead k
      before_still k m apart = out.before_other (get_or xs k 0) (not_after (suc i) k (omega arith) m apart) ∙ h.back k m
