-- The records that wait for a page.
use Rattle.slot_tables.proofs.Common.{◌≡◌, ℕ, zero, suc, ◌<◌, ◌≤◌, ◌⊎◌, true, ltb, inl, inr, Option, Some, None, List, [], ◌∷◌, length, get_or, refl, sym, ◌∙◌, ap, arith, Contains, slice_get, IfSome, IsSomeAnd, option_map, cases_lt, nat_tests, get_or_past, Contains-nil, Contains-cases, got_within, LinkedListsState, list_of, rest_from, Rec, Blank, Holds, TablesState, use_at, number_at, record_at, copies_of, Rises}
use Rattle.std.proofs.Common.{min}
use Rattle.tx_types.specs.declared.config.Slot.{Slot}
use Rattle.std.specs.Option.{IfNone}
use Rattle.std.proofs.lemmas.Bool.{ltb-true, cases_Bool}
use Rattle.slot_tables.specs.TablesState.{first_below, lower, WaitsBelow, IsLowestToGo}
use Rattle.slot_tables.proofs.OfBaseTables.Copying.{copies_have, copies_rise}
use Rattle.slot_tables.proofs.OfBaseTables.Held.{holds_number, holds_own}
use Rattle.slot_tables.specs.WaitListState.{WaitListState, AreWaiting}

pub some_waits : (w : WaitListState) (c : LinkedListsState) (page : ℕ) (first : Option ℕ) → AreWaiting w c →
    IfSome first (Contains (list_of c page))
    → IfSome first (λ number. number_at w.waits number ≡ Some page)
some_waits w c page None h has = tt
some_waits w c page (Some x) h has = (h.waiting page x).0 has

pub none_waits : (w : WaitListState) (c : LinkedListsState) (page : ℕ) (first : Option ℕ) → AreWaiting w c →
    rest_from (list_of c page) first ≡ list_of c page
    → IfNone first ((number : ℕ) → number_at w.waits number ≡ Some page → ⊥)
none_waits w c page None h whole = λ number is. Contains-nil number (rw (← whole) at ((h.waiting page number).1 is))
none_waits w c page (Some x) h whole = tt

-- the lower one of two slots
pub lower_slot : (a b : Option ℕ) (s : ℕ) → lower a b ≡ Some s → ((a ≡ Some s) ⊎ (b ≡ Some s))
lower_slot None b s e = inr e
lower_slot (Some x) None s e = inl e
lower_slot (Some x) (Some y) s e = elim (cases_lt x y) [
  | inl less ↦ (let is : min x y ≡ x = omega arith in let one : min x y ≡ s = cc in inl (ap Some (sym is ∙ one)))
  | inr more ↦ (let is : min x y ≡ y = omega arith in let one : min x y ≡ s = cc in inr (ap Some (sym is ∙ one)))
]

-- a slot is there, and it is at most this one
abbrev pub IsUpTo : Option ℕ → ℕ → Type 0
IsUpTo None s = ⊥
IsUpTo (Some x) s = x ≤ s

lower_first : (a b : Option ℕ) (s : ℕ) → IsUpTo a s → IsUpTo (lower a b) s
lower_first None b s h = absurd h
lower_first (Some x) None s h = h
lower_first (Some x) (Some y) s h = omega arith

lower_second : (a b : Option ℕ) (s : ℕ) → IsUpTo b s → IsUpTo (lower a b) s
lower_second None b s h = h
lower_second (Some x) None s h = absurd h
lower_second (Some x) (Some y) s h = omega arith

-- a loop over the records that wait for a page: the lowest slot of those passed whose links are below a version
pub record IsLowestSoFar (k : TablesState) (page below : ℕ) (left : List ℕ) (lowest : Option ℕ) : Type 0 where
  pub holds : (s : ℕ) → lowest ≡ Some s → (number : ℕ) × (use_at k.slots s ≡ Holds number)
      × WaitsBelow k page below number
  pub least : (s x : ℕ) → use_at k.slots s ≡ Holds x → WaitsBelow k page below x → Contains left x ⊎ IsUpTo lowest s

-- what the lowest slot of a record is, where its link is below
pub first_is : (k : TablesState) (below number s : ℕ) → first_below k below number ≡ Some s
    → (use_at k.slots s ≡ Holds number) × IsSomeAnd (record_at k.records number) (λ r. r.next.version < below)
first_is k below number s = by (record_at k.records number) refl
  where
    by : (o : Option Rec) → record_at k.records number ≡ o → first_below k below number ≡ Some s
        → (use_at k.slots s ≡ Holds number) × IsSomeAnd (record_at k.records number) (λ r. r.next.version < below)
    by None e is = absurd (let none : None ≡ Some s = rw e at is in cc)
    by (Some r) e is = elim (cases_Bool (ltb r.next.version below)) [
      | inl less ↦
          let first : slice_get (copies_of k.slots number) 0 ≡ Some s = rw (e, less) at is in (
            holds_number number (use_at k.slots s) ((copies_have k.slots number s).0 (got_within
                (copies_of k.slots number) 0 s first)).1,
            rw e (ltb-true r.next.version below less),
          )
      | inr more ↦ absurd (let none : None ≡ Some s = rw (e, more) at is in cc)
    ]

-- the first of a rising list is at most each of them
up_to_each : (xs : List ℕ) (s : ℕ) → Rises xs → Contains xs s → IsUpTo (slice_get xs 0) s
unfolding Rises
up_to_each [] s rises has = absurd (Contains-nil s has)
up_to_each (x ∷ xs) s rises (zero, low, is) = omega (arith, is)
up_to_each (x ∷ xs) s rises (suc i, low, is) =
    let less = rises 0 (suc i) s (omega arith) low in
    let here : get_or (x ∷ xs) (suc i) s ≡ s = is in
    omega (arith, less, here)

-- it is at most each slot that holds it
pub first_least : (k : TablesState) (below number s : ℕ) → use_at k.slots s ≡ Holds number →
    IsSomeAnd (record_at k.records number)
    (λ r. r.next.version < below)
    → s < length k.slots → IsUpTo (first_below k below number) s
first_least k below number s holds = by (record_at k.records number) refl
  where
    by : (o : Option Rec) → record_at k.records number ≡ o →
        IsSomeAnd (record_at k.records number) (λ r. r.next.version < below)
        → s < length k.slots → IsUpTo (first_below k below number) s
    by None e h low = absurd (rw e at h)
    by (Some r) e h low =
        let is : ltb r.next.version below ≡ true = (let less = rw e at h in grind (arith, nat_tests)) in
        rw (e, is) (up_to_each (copies_of k.slots number) s (copies_rise k.slots number)
        ((copies_have k.slots number s).1 (
          low,
          rw holds
              (holds_own number),
        )))

-- a slot that holds a record is one of them
held_within : (k : TablesState) (s x : ℕ) → use_at k.slots s ≡ Holds x → s < length k.slots
held_within k s x is = elim (cases_lt s (length k.slots)) [
  | inl low ↦ low
  | inr past ↦ absurd (let no : Blank ≡ Holds x = sym (get_or_past k.slots s Blank past) ∙ is in cc)
]

pub so_far_first : (k : TablesState) (page below : ℕ) (whole : List ℕ) →
    ((x : ℕ) → number_at k.waits x ≡ Some page → Contains whole x)
    → IsLowestSoFar k page below whole None
so_far_first k page below whole all = record {
  holds = λ s e. absurd (cc);
  least = λ s x holds waits. inl (all x waits.0);
}

pub so_far_next : (k : TablesState) (page below number : ℕ) (rest : List ℕ) (lowest : Option ℕ) →
    IsLowestSoFar k page below (number ∷ rest) lowest
    → number_at k.waits number ≡ Some page → IsLowestSoFar k page below rest (lower lowest (first_below k below number))
so_far_next k page below number rest lowest h waits = record {
  holds = λ s e. elim (lower_slot lowest (first_below k below number) s e) [
    | inl old ↦ h.holds s old
    | inr new ↦ (let its = first_is k below number s new in (number, its.0, (waits, its.1)))
  ];
  least = λ s x holds its_waits. elim (h.least s x holds its_waits) [
    | inl has ↦ elim (Contains-cases number rest x has) [
      | inl same ↦ inr (lower_second lowest (first_below k below number) s
          (first_least k below number s (rw same holds) (rw same its_waits.1) (held_within k s x holds)))
      | inr later ↦ inl later
    ]
    | inr up ↦ inr (lower_first lowest (first_below k below number) s up)
  ];
}

-- at the end it is the lowest of all
pub lowest_some : (k : TablesState) (page below : ℕ) (lowest : Option Slot) →
    IsLowestSoFar k page below [] (option_map (λ at. at.0) lowest) → IfSome lowest (λ at. IsLowestToGo k page below at.0)
lowest_some k page below None h = tt
lowest_some k page below (Some s) h =
    let its = h.holds s.0 refl in
    record {
      number = its.0;
      holds = its.1;
      waits = its.2;
      lowest = λ other x holds waits. elim (h.least other x holds waits) [
        | inl has ↦ absurd (Contains-nil x has)
        | inr up ↦ up
      ];
    }

pub lowest_none : (k : TablesState) (page below : ℕ) (lowest : Option Slot) →
    IsLowestSoFar k page below [] (option_map (λ at. at.0) lowest)
    → IfNone lowest ((s number : ℕ) → use_at k.slots s ≡ Holds number → WaitsBelow k page below number → ⊥)
lowest_none k page below None h = λ s number holds waits. elim (h.least s number holds waits) [
  | inl has ↦ Contains-nil number has
  | inr up ↦ up
]
lowest_none k page below (Some s) h = tt
