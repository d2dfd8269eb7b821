-- A place is put into a rising list.
use Rattle.slot_tables.proofs.Common.{◌≡◌, ℕ, zero, suc, ◌+◌, ◌<◌, ◌≤◌, Bool, true, eqb, inl, inr, Option, Some, None, List, ◌∷◌, length, get_or, refl, sym, ◌∙◌, ap, arith, Contains, position_or_len, slice_get, find, cases_lt, nat_tests, index_in, rest_from, Rises, is_above}
use Rattle.std.proofs.Common.{drop}
use Rattle.std.proofs.lemmas.List.{drop_more}
use Rattle.std.proofs.lemmas.List.Sums.{position_or_len_is}
use Rattle.std.proofs.lemmas.Option.{slice_get-get_or, slice_get_past}
use Rattle.dense_tables.specs.LinkedLists.{next_in}
use Rattle.dense_tables.proofs.Membership.{index_reads}
use Rattle.slot_tables.specs.Copies.{last_of}

-- a loop over a rising list has come to this place: those before it are below `at`, and `below` is the last of them
pub record AtPlace (xs : List ℕ) (at : ℕ) (slot below : Option ℕ) : Type 0 where
  pub index : ℕ
  pub within : index ≤ length xs
  pub here : slot ≡ slice_get xs index
  pub less : (k : ℕ) → k < index → get_or xs k 0 ≤ at
  pub last : below ≡ last_of xs index

-- of a rising list the place at an index has that index
pub index_is : (xs : List ℕ) (i : ℕ) → Rises xs → i < length xs → index_in xs (get_or xs i 0) ≡ i
unfolding Rises
index_is xs i rises low =
    position_or_len_is (λ x. eqb x (get_or xs i 0)) xs i 0 (omega arith)
    (λ k less. let lower = rises k i 0 less low in grind (arith, nat_tests))
    (λ _. grind (arith, nat_tests))

pub at_first : (xs : List ℕ) (at : ℕ) → AtPlace xs at (slice_get xs 0) None
at_first xs at = record {
  index = 0;
  within = omega arith;
  here = refl;
  less = λ k l. absurd (omega arith);
  last = refl;
}

some_within : (xs : List ℕ) (i x : ℕ) → slice_get xs i ≡ Some x → (i < length xs) × (get_or xs i 0 ≡ x)
some_within xs i x is = elim (cases_lt i (length xs)) [
  | inl low ↦ (low, let read : Some (get_or xs i 0) ≡ Some x = sym (slice_get-get_or xs i 0 low) ∙ is in cc)
  | inr past ↦ absurd (let none : None ≡ Some x = sym (slice_get_past xs i past) ∙ is in cc)
]

-- the loop goes on past a place that is below
pub at_next : (xs : List ℕ) (at other : ℕ) (slot below : Option ℕ) → Rises xs → AtPlace xs at slot below →
    slot ≡ Some other → other ≤ at
    → AtPlace xs at (next_in xs other) slot
at_next xs at other slot below rises h is less =
    let found = some_within xs h.index other (sym h.here ∙ is) in
    let index = index_is xs h.index rises found.0 in
    let next : index_in xs other + 1 ≡ suc h.index = rw (← found.1, index) (omega arith) in
    record {
      index = suc h.index;
      within = omega (arith, found.0);
      here = rw next refl;
      less = λ k l. elim (cases_lt k h.index) [
        | inl sooner ↦ h.less k sooner
        | inr now ↦ let same : k ≡ h.index = omega arith in rw (same, found.1) less
      ];
      last = h.here;
    }

-- it stops at the first place above, or at the end
pub stops_above : (xs : List ℕ) (at other : ℕ) (slot below : Option ℕ) → AtPlace xs at slot below →
    slot ≡ Some other → at < other
    → below ≡ last_of xs (position_or_len (is_above at) xs)
stops_above xs at other slot below h is more =
    let found = some_within xs h.index other (sym h.here ∙ is) in
    let index = position_or_len_is (is_above at) xs h.index 0 h.within (λ k l. let low = h.less k l in
    grind (arith, nat_tests))
    (λ _. rw found.1 (grind (arith, nat_tests))) in
    h.last ∙ ap (last_of xs) (sym index)

pub stops_end : (xs : List ℕ) (at : ℕ) (slot below : Option ℕ) → AtPlace xs at slot below → slot ≡ None
    → below ≡ last_of xs (position_or_len (is_above at) xs)
stops_end xs at slot below h is = elim (cases_lt h.index (length xs)) [
  | inl low ↦ absurd (let none : Some (get_or xs h.index 0) ≡ None = sym (slice_get-get_or xs h.index 0 low)
      ∙ sym h.here ∙ is in cc)
  | inr past ↦
      let whole : h.index ≡ length xs = (let within = h.within in omega arith) in
      let index = position_or_len_is (is_above at) xs h.index 0 h.within (λ k l. let low = h.less k l in
      grind (arith, nat_tests))
      (λ l. absurd (omega arith)) in
      h.last ∙ ap (last_of xs) (sym index)
]

-- the last place before an index has the index below it, and where there is none it is the first one
pub last_place : (xs : List ℕ) (i below : ℕ) → Rises xs → i ≤ length xs → last_of xs i ≡ Some below →
    index_in xs below + 1 ≡ i
last_place xs zero below rises l is = absurd (cc)
last_place xs (suc n) below rises l is =
    let found = some_within xs n below is in
    let index = index_is xs n rises found.0 in
    rw (← found.1, index) (omega arith)

pub no_place : (xs : List ℕ) (i : ℕ) → i ≤ length xs → last_of xs i ≡ None → i ≡ 0
no_place xs zero l is = refl
no_place xs (suc n) l is = absurd (let some : Some (get_or xs n 0) ≡ None = sym (slice_get-get_or xs n 0 (omega arith))
    ∙ is in cc)

-- what is left from a place on begins with it
pub rest_starts : (xs : List ℕ) (at : ℕ) → Contains xs at → rest_from xs (Some at) ≡ at ∷ drop (index_in xs at + 1) xs
rest_starts xs at has =
    let reads = index_reads xs at has in
    drop_more xs (index_in xs at) 0 reads.0 ∙ ap (λ x. x ∷ drop (index_in xs at + 1) xs) reads.1

-- and where that one passes it is the first that does
pub find_first : (test : ℕ → Bool) (xs : List ℕ) (at : ℕ) → Contains xs at → test at ≡ true →
    find test (rest_from xs (Some at)) ≡ Some at
find_first test xs at has pass = rw (rest_starts xs at has, pass) refl
