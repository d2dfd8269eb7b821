-- Which transactions are chosen hangs on their entries and names alone, so that it is known of a device before it
-- settled; and what a cut leaves of one that settled.
use Rattle.tx_engine.proofs.Common.{◌≡◌, ℕ, ◌+◌, Bool, List, [], ◌∷◌, length, map, drop, get_or, Contains, refl, sym, ap, ap₂, ◌∙◌, subst, inl, inr, arith, zip, cases_Bool, cases_lt, drop_all, drop_more, Contains-cases, Contains-nil, bytes_in, Link, Slot, Load, spelling, IndexState, BlocksState, next_slot_in, MayTakeEach, ArrayState, Entry, Pages, put, loads_for, chosen_from, is_ready, jobs_of, record_due, OpenTransactionsState, TransactionState, no_transaction, transaction_at, Naming, write_at, CutLeaves, IsAtLast, settled, settled_entry}
use Rattle.std.specs.Prelude.{take_while}
use Rattle.list_lemmas.proofs.Options.{cases_Option}
use Rattle.array_machine.specs.Batches.{CutLeavesEach}
use Rattle.tx_engine.specs.Batches.{load_due, loads_of, slots_next}
use Rattle.tx_engine.proofs.OfStepAll.Chosen.{chosen_ends, chosen_full, chosen_more, chosen_stops, take_fails, take_passes}

-- an open transaction without how many of its records are noted
abbrev pub bare : TransactionState → TransactionState
bare o = record { entry = o.entry; naming = record { names = o.naming.names; noted_count = 0 } }

abbrev bare_pair : Slot × TransactionState → Slot × TransactionState
bare_pair (at, o) = (at, bare o)

take_bare : (n : IndexState) (os : List TransactionState) → take_while (is_ready n) (map bare os)
    ≡ map bare (take_while (is_ready n) os)
take_bare n [] = refl
take_bare n (o ∷ os) = elim (cases_Bool (is_ready n o)) [
  | inl passes ↦ take_passes (is_ready n) (bare o) (map bare os) passes ∙ ap (λ l. bare o ∷ l) (take_bare n os)
      ∙ ap (map bare) (sym (take_passes (is_ready n) o os passes))
  | inr fails ↦ take_fails (is_ready n) (bare o) (map bare os) fails
      ∙ ap (map bare) (sym (take_fails (is_ready n) o os fails))
]

zip_bare : (slots : List Slot) (os : List TransactionState) → zip slots (map bare os) ≡ map bare_pair (zip slots os)
zip_bare [] os = refl
zip_bare (at ∷ slots) [] = refl
zip_bare (at ∷ slots) (o ∷ os) = ap (λ l. (at, bare o) ∷ l) (zip_bare slots os)

jobs_pairs : (n : IndexState) (chosen : List (Slot × TransactionState)) →
    jobs_of n (map bare_pair chosen) ≡ jobs_of n chosen
jobs_pairs n [] = refl
jobs_pairs n (x ∷ chosen) = ap (λ l. record { slot = x.0; rec = record_due n x.1 } ∷ l) (jobs_pairs n chosen)

loads_pairs : (n : IndexState) (chosen : List (Slot × TransactionState)) →
    loads_of n (map bare_pair chosen) ≡ loads_of n chosen
loads_pairs n [] = refl
loads_pairs n (x ∷ chosen) = ap (λ l. load_due n x.0 x.1 ∷ l) (loads_pairs n chosen)

chosen_bare : (n : IndexState) (t : BlocksState) (dies : List ℕ) (os : List TransactionState) →
    chosen_from n t dies (map bare os) ≡ map bare_pair (chosen_from n t dies os)
chosen_bare n t dies os = ap (zip (slots_next t dies)) (take_bare n os)
    ∙ zip_bare (slots_next t dies) (take_while (is_ready n) os)

-- transactions that differ at most in how many of their records are noted
module _ (n : IndexState) (t : BlocksState) (dies : List ℕ) (os os' : List TransactionState)
    (same : map bare os ≡ map bare os') where
  both : map bare_pair (chosen_from n t dies os) ≡ map bare_pair (chosen_from n t dies os')
  both = sym (chosen_bare n t dies os) ∙ ap (chosen_from n t dies) same ∙ chosen_bare n t dies os'

  pub jobs_alike : jobs_of n (chosen_from n t dies os) ≡ jobs_of n (chosen_from n t dies os')
  jobs_alike = sym (jobs_pairs n (chosen_from n t dies os)) ∙ ap (jobs_of n) both
      ∙ jobs_pairs n (chosen_from n t dies os')

  pub loads_alike : loads_of n (chosen_from n t dies os) ≡ loads_of n (chosen_from n t dies os')
  loads_alike = sym (loads_pairs n (chosen_from n t dies os)) ∙ ap (loads_of n) both
      ∙ loads_pairs n (chosen_from n t dies os')

abbrev opened_as : Entry × Naming → TransactionState
opened_as (e, x) = record { entry = e; naming = x }

first_names : (a b : List Link) (xs ys : List (List Link)) → a ∷ xs ≡ b ∷ ys → a ≡ b
first_names a b xs ys same = ap (λ (l : List (List Link)). get_or l 0 []) same

rest_names : (a b : List Link) (xs ys : List (List Link)) → a ∷ xs ≡ b ∷ ys → xs ≡ ys
rest_names a b xs ys same = ap (drop 1) same

-- the entries of one list with the names of another, where the names are the same
pub transactions_alike : (os before : List TransactionState) → map (λ (o : TransactionState). o.naming.names) os
    ≡ map (λ (o : TransactionState). o.naming.names) before →
    map bare (map opened_as (zip (map (λ (o : TransactionState). o.entry) os)
    (map (λ (o : TransactionState). o.naming) before))) ≡ map bare os
transactions_alike [] before same = refl
transactions_alike (o ∷ os) [] same = absurd (let long = ap length same in omega (arith, long))
transactions_alike (o ∷ os) (b ∷ before) same =
    let names = map (λ (x : TransactionState). x.naming.names) in
    ap₂ (λ (ns : List Link) l. record { entry = o.entry; naming = record { names = ns; noted_count = 0 } } ∷ l)
    (sym (first_names o.naming.names b.naming.names (names os) (names before) same))
    (transactions_alike os before (rest_names o.naming.names b.naming.names (names os) (names before) same))

-- what is loaded for the chosen ones
pub loads_chosen : (n : IndexState) (t : BlocksState) (O : OpenTransactionsState) → O.page_bytes ≡ n.config.page_bytes →
    (dies : List ℕ) (i : ℕ) →
    loads_for n O i (jobs_of n (chosen_from n t dies (drop i O.all))) ≡ loads_of n (chosen_from n t dies (drop i O.all))
loads_chosen n t O size [] i = refl
loads_chosen n t O size (die ∷ dies) i =
    let Good : List (Slot × TransactionState) → Type 0 = λ chosen. loads_for n O i (jobs_of n chosen)
    ≡ loads_of n chosen in
    elim (cases_Option (next_slot_in t die)) [
      | inl none ↦ subst Good (sym (chosen_full n t die dies (drop i O.all) none)) (loads_chosen n t O size dies i)
      | inr some ↦ elim (cases_lt i (length O.all)) [
        | inr past ↦ subst Good (sym (ap (chosen_from n t (die ∷ dies)) (drop_all i O.all past)
            ∙ chosen_ends n t (die ∷ dies))) refl
        | inl within ↦ (
            let o = transaction_at O i in
            let rest = drop (i + 1) O.all in
            let is : drop i O.all ≡ o ∷ rest = drop_more O.all i no_transaction within in
            elim (cases_Bool (is_ready n o)) [
              | inr fails ↦ subst Good (sym (ap (chosen_from n t (die ∷ dies)) is
                  ∙ chosen_stops n t (die ∷ dies) o rest fails)) refl
              | inl passes ↦ subst Good (sym (ap (chosen_from n t (die ∷ dies)) is
                  ∙ chosen_more n t die dies some.0 o rest some.1 passes))
                  (ap₂ (λ (l : Load) ls. l ∷ ls)
                  (ap (λ size. record {
                    at = some.0.0;
                    bytes = bytes_in size (write_at o.entry o.entry.done);
                    spare_area = spelling n.config.protocol
                        (record_due n o);
                  }) size) (loads_chosen n t O size dies (i + 1)))
            ])
      ]
    ]

-- Cuts: a transaction that settled is at its last page where it was before
pub take_settled : (there : Bool) (es : List Entry) (old new : Pages) →
    MayTakeEach old IsAtLast (map (settled_entry there) es) new →
    MayTakeEach old IsAtLast es new
take_settled there [] old new h = h
take_settled there (e ∷ es) old new (inl h) = inl (take_settled there es old new h)
take_settled there (e ∷ es) old new (inr h) = inr (h.0, take_settled there es (put old e.writes) new h.1)

take_none : (es : List Entry) (old new : Pages) → new ≡ old → MayTakeEach old IsAtLast es new
take_none [] old new same = same
take_none (e ∷ es) old new same = inl (take_none es old new same)

take_one : (es : List Entry) (old new : Pages) (e : Entry) → Contains es e → IsAtLast e → new ≡ put old e.writes →
    MayTakeEach old IsAtLast es new
take_one [] old new e inside last is = absurd (Contains-nil e inside)
take_one (x ∷ es) old new e inside last is = elim (Contains-cases x es e inside) [
  | inl same ↦ inr (
    subst IsAtLast (sym same) last,
    take_none es (put old x.writes) new (is ∙ ap (λ (y : Entry). put old y.writes) (sym same)),
  )
  | inr later ↦ inl (take_one es old new e later last is)
]

-- what a cut leaves with one transaction at most it leaves with each
pub leaves_each : (Q : Entry → Type 0) (old new : ArrayState) → ((e : Entry) → Q e → IsAtLast e) → CutLeaves Q old new →
    CutLeavesEach old new
leaves_each Q old new last h = (
  h.0,
  elim h.1 [
    | inl same ↦ take_none old.entries (settled h.0 old).pages new.pages same
    | inr took ↦ take_one old.entries (settled h.0 old).pages new.pages took.0 took.1.0 (last took.0 took.1.1) took.2
  ],
  h.2,
)
