-- What the calls of `LinkedLists` leave, and what they read.
use Rattle.dense_tables.proofs.Common.{◌≡◌, ℕ, zero, suc, ◌+◌, ◌<◌, ◌≤◌, inl, inr, Some, List, ◌∷◌, length, get_or, set, drop, ltb, true, refl, ◌∙◌, ap, arith, rules, length-set, Contains, cases_lt, nat_tests, get_or_past, get_or_default, LinkedListsState, list_of, IsListed, AreDisjoint, index_in, rest_from, without, paths}
use Rattle.std.proofs.Common.{None, cond, false}
use Rattle.std.specs.List.{slice_get}
use Rattle.std.proofs.lemmas.List.{drop_more, drop_all}
use Rattle.std.specs.Option.{IfSome}
use Rattle.std.proofs.lemmas.List.Elements.{Contains-get_or}
use Rattle.std.proofs.lemmas.Option.{slice_get-get_or, slice_get_past}
use Rattle.dense_tables.specs.LinkedLists.{next_in, with_first, with_behind}
use Rattle.dense_tables.specs.Links.{IsLinked, AreLinked}
use Rattle.dense_tables.proofs.Linked.{index_is}
use Rattle.dense_tables.proofs.Chained.{paths_are, are_disjoint, listed_at, inserted, removed}

-- what two lists of links stand for
abbrev pub lists_of : List ℕ → List ℕ → LinkedListsState
lists_of next before = record { places = length before; lists = paths next (length before) }

-- they are linked, and stand for these lists
pub record Stand (next before : List ℕ) (c : LinkedListsState) : Type 0 where
  pub linked : AreLinked next before (paths next (length before))
  pub view : lists_of next before ≡ c
  pub disjoint : AreDisjoint (lists_of next before)

pub stand : (next before : List ℕ) (c : LinkedListsState) → AreLinked next before c.lists → length before ≡ c.places →
    Stand next before c
stand next before c h places =
    let are = paths_are next before c.lists h in
    record {
      linked = rw are h;
      view = rw (are, places) refl;
      disjoint = rw are (are_disjoint next before c.lists h);
    }

module _ (next before next' before' : List ℕ) (old : LinkedListsState)
    (h : AreLinked next before (paths next (length before)))
    (is : lists_of next before ≡ old) where
  -- a place with its index in the list of a key
  at_index : (key at : ℕ) → Contains (list_of old key) at
      → (key < length (paths next (length before))) × ((k : ℕ) × (k < length (list_of (lists_of next before) key)) ×
      (get_or (list_of (lists_of next before) key) k 0 ≡ at))
  at_index key at has = listed_at next before (paths next (length before)) h key at (rw (← is) at has)

  pub pushed : (key at root : ℕ) → key < length old.lists → at < old.places → (IsListed old at → ⊥) →
      root ≡ length before + key
      → next' ≡ set (set next at (get_or next root 0)) root at →
      before' ≡ set (set before (get_or next root 0) at) at root
      → Stand next' before' (with_first old key at)
  pushed key at root is_key place free is_root is_next is_before =
      rw (is_next, is_before, is_root, ← is)
      (stand _ _ (with_first (lists_of next before) key at)
      (inserted next before (paths next (length before)) h key (rw (← is) at is_key) 0 at (omega arith)
      (rw (← is) at place) (rw (← is) at free))
      (length-set _ at _ ∙ length-set before _ at))

  pub put_behind : (key prev at : ℕ) → Contains (list_of old key) prev → at < old.places → (IsListed old at → ⊥)
      → next' ≡ set (set next at (get_or next prev 0)) prev at →
      before' ≡ set (set before (get_or next prev 0) at) at prev
      → Stand next' before' (with_behind old key prev at)
  put_behind key prev at has place free is_next is_before =
      let found = at_index key prev has in
      let i = found.1.0 in
      let index = index_is next before (length before + key) _ (h.each key found.0) (omega arith) i prev
      found.1.1 found.1.2 in
      let behind : index_in (list_of (lists_of next before) key) prev + 1 ≡ suc i = omega arith in
      rw (is_next, is_before, ← is)
      (stand _ _ (with_behind (lists_of next before) key prev at)
      (rw behind (rw found.1.2 at (inserted next before (paths next (length before)) h key found.0 (suc i) at
      (omega (arith, found.1.1)) (rw (← is) at place)
      (rw (← is) at free))))
      (length-set _ at _ ∙ length-set before _ at))

  pub taken_out : (key at : ℕ) → Contains (list_of old key) at
      → next' ≡ set next (get_or before at 0) (get_or next at 0) →
      before' ≡ set before (get_or next at 0) (get_or before at 0)
      → Stand next' before' (without old key at)
  taken_out key at has is_next is_before =
      let found = at_index key at has in
      let i = found.1.0 in
      let index = index_is next before (length before + key) _ (h.each key found.0) (omega arith) i at
      found.1.1 found.1.2 in
      rw (is_next, is_before, ← is)
      (stand _ _ (without (lists_of next before) key at)
      (rw index (rw found.1.2 at (removed next before (paths next (length before)) h key found.0 i found.1.1)))
      (length-set before _ _))

-- what is read at an index of a list stands in it
pub contains_read : (xs : List ℕ) (i : ℕ) → IfSome (slice_get xs i) (Contains xs)
contains_read xs i = elim (cases_lt i (length xs)) [
  | inl inside ↦ rw (slice_get-get_or xs i 0 inside) (Contains-get_or xs i 0 inside)
  | inr past ↦ rw (slice_get_past xs i past) (search rules)
]

-- the rest of a linked list from the place at an index on
rest_at : (next before : List ℕ) (root : ℕ) (xs : List ℕ) → IsLinked next before root xs →
    length before ≤ root → (i : ℕ)
    → rest_from xs (slice_get xs i) ≡ drop i xs
rest_at next before root xs h is_root i = elim (cases_lt i (length xs)) [
  | inl inside ↦
      let index = index_is next before root xs h is_root i (get_or xs i 0) inside refl in
      rw (slice_get-get_or xs i 0 inside, index) refl
  | inr past ↦ rw (slice_get_past xs i past, drop_all i xs past) refl
]

-- what `next` has behind the number before an index is the place there
place_at : (next before : List ℕ) (root : ℕ) (xs : List ℕ) → IsLinked next before root xs → (i : ℕ) → i ≤ length xs
    → let behind = get_or next (get_or (root ∷ xs) i 0) 0 in cond (ltb behind (length before)) (Some behind) None
    ≡ slice_get xs i
place_at next before root xs h i l = elim (cases_lt i (length xs)) [
  | inl inside ↦
      let is : get_or next (get_or (root ∷ xs) i 0) 0 ≡ get_or xs i 0 = h.forth i l
      ∙ get_or_default xs i (length before) 0 inside in
      let low = h.within i inside in
      let is_place : ltb (get_or xs i 0) (length before) ≡ true = grind (arith, nat_tests) in
      rw (is, is_place, slice_get-get_or xs i 0 inside) refl
  | inr past ↦
      let is : get_or next (get_or (root ∷ xs) i 0) 0 ≡ length before = h.forth i l
      ∙ get_or_past xs i (length before) past in
      let none : ltb (length before) (length before) ≡ false = grind (arith, nat_tests) in
      rw (is, none, slice_get_past xs i past) refl
]

module _ (next before : List ℕ) (now : LinkedListsState) (h : AreLinked next before (paths next (length before)))
    (is : lists_of next before ≡ now) where
  pub now_disjoint : AreDisjoint now
  now_disjoint = rw (← is) (are_disjoint next before (paths next (length before)) h)

  -- what is read behind the root of a key
  pub first_read : (key behind : ℕ) → key < length now.lists → behind ≡ get_or next (length before + key) 0
      → (cond (ltb behind (length before)) (Some behind) None ≡ slice_get (list_of now key) 0)
      × (rest_from (list_of now key) (slice_get (list_of now key) 0) ≡ list_of now key)
  first_read key behind is_key reads =
      let linked = h.each key (rw (← is) at is_key) in
      rw (reads, ← is) (
        place_at next before (length before + key) _ linked 0 (omega arith),
        rest_at next before (length before + key) _ linked (omega arith) 0,
      )

  -- what is read behind a place in the list of a key
  pub next_read : (key at behind : ℕ) → Contains (list_of now key) at → behind ≡ get_or next at 0
      → (cond (ltb behind (length before)) (Some behind) None ≡ next_in (list_of now key) at)
      × (rest_from (list_of now key) (Some at) ≡ at ∷ rest_from (list_of now key) (next_in (list_of now key) at))
  next_read key at behind has reads =
      let found = listed_at next before (paths next (length before)) h key at (rw (← is) at has) in
      let i = found.1.0 in
      let linked = h.each key found.0 in
      let xs = list_of (lists_of next before) key in
      let index = index_is next before (length before + key) _ linked (omega arith) i at found.1.1 found.1.2 in
      let behind_it : i + 1 ≡ suc i = omega arith in
      let place = rw found.1.2 at (place_at next before (length before + key) _ linked (suc i)
      (omega (arith, found.1.1))) in
      let rest = rest_at next before (length before + key) _ linked (omega arith) (i + 1) in
      rw (reads, ← is, index) (rw behind_it place, rw (rest, drop_more xs i 0 found.1.1, found.1.2) refl)

  -- a listed place is one of them
  pub listed_below : (at : ℕ) → IsListed now at → at < length before
  listed_below at listed = rw (ap (λ c. c.places) is) (now_disjoint.within listed.0 at listed.1)

  -- and what `before` has of it is a place or a root
  pub before_lies : (key at : ℕ) → Contains (list_of now key) at → get_or before at 0 < length next
  before_lies key at has =
      let found = listed_at next before (paths next (length before)) h key at (rw (← is) at has) in
      let linked = h.each key found.0 in
      let back = rw found.1.2 at (linked.back found.1.0 found.1.1) in
      rw back (number_lies key found.0 found.1.0 (omega (arith, found.1.1)))
    where
      number_lies : (key : ℕ) → key < length (paths next (length before)) → (i : ℕ) →
          i ≤ length (list_of (lists_of next before) key)
          → get_or ((length before + key) ∷ list_of (lists_of next before) key) i 0 < length next
      number_lies key low zero l = omega (arith, h.count)
      number_lies key low (suc i) l = let place = (h.each key low).within i (omega arith) in omega (arith, h.count)
