-- Which places stand in lists after a change.
use Rattle.dense_tables.proofs.Common.{◌≡◌, ◌≢◌, ℕ, ◌+◌, ◌-◌, ◌<◌, inl, inr, eqb, List, [], length, get_or, sym, ◌∙◌, arith, Contains, remove, cases_lt, cases_eq, nat_tests, get_or-set_same, get_or-set_other, get_or_past, get_or_default, LinkedListsState, list_of, IsListed, AreDisjoint, index_in, without}
use Rattle.std.proofs.Common.{◌↔◌, subst}
use Rattle.std.specs.List.{AllPairs}
use Rattle.std.proofs.lemmas.List.Edits.{length-remove, get_or-remove_below}
use Rattle.std.proofs.lemmas.List.Edits.{get_or-remove_above}
use Rattle.std.proofs.lemmas.List.Sums.{fails_before_first, passes_at_first}
use Rattle.dense_tables.specs.LinkedLists.{with_list}

-- a place of a list stands at its index
pub index_reads : (xs : List ℕ) (at : ℕ) → Contains xs at → (index_in xs at < length xs)
    × (get_or xs (index_in xs at) 0 ≡ at)
index_reads xs at (k, l, is) =
    let first = index_in xs at in
    elim (cases_lt k first) [
      | inl sooner ↦
          let fails = fails_before_first (λ x. eqb x at) xs k 0 sooner in
          let reads : get_or xs k 0 ≡ at = get_or_default xs k 0 at l ∙ is in
          absurd (grind (arith, nat_tests))
      | inr later ↦
          let low : first < length xs = omega arith in
          let passes = passes_at_first (λ x. eqb x at) xs 0 low in
          (low, grind (arith, nat_tests))
    ]

-- a place that was taken out of a list without doubles is no longer in it
pub not_in_rest : (xs : List ℕ) (at : ℕ) → AllPairs (λ x y. x ≢ y) xs → Contains xs at →
    Contains (remove xs (index_in xs at)) at → ⊥
not_in_rest xs at once has (k, l, is) =
    let i = index_in xs at in
    let reads = index_reads xs at has in
    let short = length-remove xs i reads.0 in
    elim (cases_lt k i) [
      | inl sooner ↦ once k i 0 sooner reads.0 (get_or_default xs k 0 at (omega (arith, reads.0))
          ∙ sym (get_or-remove_below xs i at k sooner reads.0) ∙ is ∙
          sym reads.1)
      | inr later ↦
          once i (k + 1) 0 (omega arith) (omega (arith, l))
          (reads.1 ∙ sym is ∙ get_or-remove_above xs i at k later reads.0
          ∙ get_or_default xs (k + 1) at 0 (omega (arith, l)))
    ]

-- the other places of the list stay in it
pub still_in_rest : (xs : List ℕ) (at x : ℕ) → Contains xs at → Contains xs x → x ≢ at →
    Contains (remove xs (index_in xs at)) x
still_in_rest xs at x has (k, l, is) other =
    let i = index_in xs at in
    let reads = index_reads xs at has in
    let short = length-remove xs i reads.0 in
    elim (cases_lt k i) [
      | inl sooner ↦ (k, omega (arith, reads.0), get_or-remove_below xs i x k sooner reads.0 ∙ is)
      | inr later ↦
          let differ : k ≢ i = λ e. other (sym is ∙ get_or_default xs k x 0 l ∙ (rw e reads.1)) in
          let place : k - 1 + 1 ≡ k = omega arith in
          (k - 1, omega (arith, l), get_or-remove_above xs i x (k - 1) (omega arith) reads.0 ∙ rw place is)
    ]

-- and no place comes in
pub was_in_list : (xs : List ℕ) (at x : ℕ) → Contains xs at → Contains (remove xs (index_in xs at)) x → Contains xs x
was_in_list xs at x has (k, l, is) =
    let i = index_in xs at in
    let reads = index_reads xs at has in
    let short = length-remove xs i reads.0 in
    elim (cases_lt k i) [
      | inl sooner ↦ (k, omega (arith, reads.0), sym (get_or-remove_below xs i x k sooner reads.0) ∙ is)
      | inr later ↦ (k + 1, omega (arith, l), sym (get_or-remove_above xs i x k later reads.0) ∙ is)
    ]

-- so the places of the list are the others
pub contains_rest : (xs : List ℕ) (at x : ℕ) → AllPairs (λ x y. x ≢ y) xs → Contains xs at
    → Contains (remove xs (index_in xs at)) x ↔ (Contains xs x × (x ≢ at))
contains_rest xs at x once has = (
  λ still. (
    was_in_list xs at x has still,
    λ e. not_in_rest xs at once has
        (subst (Contains (remove xs (index_in xs at))) e still),
  ),
  λ both. still_in_rest xs at x has both.0 both.1,
)

-- a list that is written for a key
list_written : (c : LinkedListsState) (key : ℕ) (xs : List ℕ) → key < length c.lists →
    list_of (with_list c key xs) key ≡ xs
list_written c key xs low = get_or-set_same c.lists key xs [] low

-- a key whose list has a place is one of theirs
pub key_lies : (c : LinkedListsState) (key at : ℕ) → Contains (list_of c key) at → key < length c.lists
key_lies c key at has = elim (cases_lt key (length c.lists)) [
  | inl low ↦ low
  | inr past ↦ let none : list_of c key ≡ [] = get_or_past c.lists key [] past in let no = rw none at has.1 in
      absurd (omega arith)
]

-- a place that was taken out is in no list
pub not_listed_without : (c : LinkedListsState) (key at : ℕ) → AreDisjoint c → Contains (list_of c key) at →
    IsListed (without c key at) at → ⊥
not_listed_without c key at h has (other, still) = elim (cases_eq other key) [
  | inl same ↦
      let here : list_of (without c key at) other ≡ remove (list_of c key) (index_in (list_of c key) at) =
      rw same (list_written c key (remove (list_of c key) (index_in (list_of c key) at)) (key_lies c key at has)) in
      not_in_rest (list_of c key) at (h.once key) has (rw here at still)
  | inr differ ↦
      let there = get_or-set_other c.lists key other (remove (list_of c key) (index_in (list_of c key) at)) [] differ in
      differ (h.apart other key at (rw there at still) has)
]
