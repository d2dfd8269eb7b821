-- Which transactions are chosen: die after die, and that their programs may be done together.
use Rattle.tx_engine.proofs.Common.{◌≡◌, ◌≢◌, ℕ, zero, suc, ◌+◌, ◌<◌, ◌≤◌, ◌==◌, Bool, true, false, ◌&&◌, eqb-true, List, [], ◌∷◌, length, drop, All, Option, Some, None, refl, sym, ap, ◌∙◌, subst, inl, inr, arith, is_none, cons_option, range_with_len, zip, cases_Bool, cases_eq, cases_lt, cond-true, cond-false, le-ltb, lt-ltb, drop_all, drop_more, All-nil, All-cons, All-head, All-tail, pairs_cons, All-contains, Shape, Slot, Contents, FlashState, is_present, found_in, die_of, IndexState, block_to_go, BlocksState, IsBlocksState, IsFirstFree, next_slot_in, Mark, Plain, Doubt, Whole, Entry, is_doubted, Protocol, AreJobsDue, CanWriteAll, InOrderOfDies, IsJobDue, IsReady, StoreState, chosen_from, is_ready, jobs_of, record_due, OpenTransactionsState, TransactionState, no_transaction, transaction_at, must_program, IsAsMarked, Naming, name_at, Job}
use Rattle.std.specs.Prelude.{not, option_map, take, take_while}
use Rattle.std.specs.List.{prefix_len}
use Rattle.std.proofs.lemmas.Bool.{and_parts, eq-eqb, ne_eqb}
use Rattle.list_lemmas.proofs.Options.{cases_Option}
use Rattle.die_alloc.specs.NextSlot.{first_unused, open_block}
use Rattle.die_alloc.proofs.NextSlots.{die_of-first_unused, first_unused_is_free, open_block_stands}
use Rattle.collector.specs.declared.unsure.Unsure.TheVariants as unsure
use Rattle.tx_engine.specs.BatchCalls.{is_due_clear}
use Rattle.tx_engine.specs.Batches.{chosen_in, slots_next}
use Rattle.tx_engine.specs.Settling.{is_whole}
use Rattle.tx_engine.proofs.OfDevice.Arrays.{as_many_names}
use Rattle.tx_engine.proofs.OfSettle.SettledLists.{calm_at}
use Rattle.tx_engine.proofs.OfDevice.Kept.{BlocksInvariant, from_stands}

-- the first ones that pass a test
pub take_passes : {X : Type 0} (test : X → Bool) (x : X) (xs : List X) → test x ≡ true →
    take_while test (x ∷ xs) ≡ x ∷ take_while test xs
take_passes test x xs h =
    let more : 1 + prefix_len test xs ≡ suc (prefix_len test xs) = omega arith in
    ap (λ k. take k (x ∷ xs)) (cond-true (test x) (1 + prefix_len test xs) 0 h ∙ more)

pub take_fails : {X : Type 0} (test : X → Bool) (x : X) (xs : List X) → test x ≡ false → take_while test (x ∷ xs) ≡ []
take_fails test x xs h = ap (λ k. take k (x ∷ xs)) (cond-false (test x) (1 + prefix_len test xs) 0 h)

abbrev no_transactions : List TransactionState
no_transactions = []

zip_nil : (slots : List Slot) → zip slots no_transactions ≡ []
zip_nil [] = refl
zip_nil (at ∷ slots) = refl

-- a die without room is passed over
pub chosen_full : (n : IndexState) (t : BlocksState) (die : ℕ) (dies : List ℕ) (os : List TransactionState) →
    next_slot_in t die ≡ None →
    chosen_from n t (die ∷ dies) os ≡ chosen_from n t dies os
chosen_full n t die dies os none = ap (λ a. zip (cons_option a (slots_next t dies)) (take_while (is_ready n) os)) none

-- the next transaction is not ready, or there is none
pub chosen_stops : (n : IndexState) (t : BlocksState) (dies : List ℕ) (o : TransactionState)
    (os : List TransactionState) → is_ready n o ≡ false →
    chosen_from n t dies (o ∷ os) ≡ []
chosen_stops n t dies o os fails = ap (zip (slots_next t dies)) (take_fails (is_ready n) o os fails)
    ∙ zip_nil (slots_next t dies)

pub chosen_ends : (n : IndexState) (t : BlocksState) (dies : List ℕ) → chosen_from n t dies [] ≡ []
chosen_ends n t dies = zip_nil (slots_next t dies)

-- it is ready, and the die has room
pub chosen_more : (n : IndexState) (t : BlocksState) (die : ℕ) (dies : List ℕ) (at : Slot) (o : TransactionState)
    (os : List TransactionState) → next_slot_in t die ≡ Some at →
    is_ready n o ≡ true → chosen_from n t (die ∷ dies) (o ∷ os) ≡ (at, o) ∷ chosen_from n t dies os
chosen_more n t die dies at o os some passes =
    ap (λ a. zip (cons_option a (slots_next t dies)) (take_while (is_ready n) (o ∷ os))) some
    ∙ ap (zip (at ∷ slots_next t dies)) (take_passes (is_ready n) o os passes)

-- the slot of a die
pub record IsSlotIn (t : BlocksState) (die : ℕ) (at : Slot) : Type 0 where
  pub first : IsFirstFree t at.0
  pub lies : die_of t.shape at.0 ≡ die

pub slot_in_stands : (t : BlocksState) → IsBlocksState t → (die : ℕ) (at : Slot) → die < t.shape.dies →
    next_slot_in t die ≡ Some at → IsSlotIn t die at
unfolding next_slot_in
slot_in_stands t good die at low some = elim (cases_Option (open_block t die)) [
  | inl none ↦ (let none_is : None ≡ Some at = sym (ap (option_map (first_unused t)) none) ∙ some in cc)
  | inr found ↦ (
      let block = found.0 in
      let is : Some (first_unused t block) ≡ Some at = sym (ap (option_map (first_unused t)) found.1) ∙ some in
      let same : first_unused t block ≡ at = cc in
      let stands = open_block_stands t good die block low found.1 in
      subst (IsSlotIn t die) same (record {
        first = first_unused_is_free t good block stands.within stands.room;
        lies = die_of-first_unused t good die block stands;
      }))
]

plain_by : (m : Mark) → is_whole m ≡ false → is_doubted m ≡ false → m ≡ Plain
plain_by Plain whole calm = refl
plain_by Doubt whole calm = cc
plain_by Whole whole calm = cc

none_by : (o : Option ℕ) → is_none o ≡ true → o ≡ None
none_by None is = refl
none_by (Some x) is = cc

not_true : (b : Bool) → not b ≡ true → b ≡ false
not_true true h = cc
not_true false h = refl

-- what is kept of a transaction tells whether the record of its next page is there
due_as_noted : (image : List Contents) (n : IndexState) (e : Entry) (x : Naming) (m : Mark) → e.done < length x.names →
    is_doubted m ≡ false →
    IsAsMarked image n e x m →
    (not (is_whole m) && not (is_present (found_in n.notes) (name_at x e.done)))
    ≡ (not (is_whole m) && (x.noted_count == e.done))
due_as_noted image n e x Whole inside calm w = refl
due_as_noted image n e x Doubt inside calm w = cc
due_as_noted image n e x Plain inside calm w =
    let least = w.least in
    let most = w.most in
    elim (cases_eq x.noted_count e.done) [
      | inl same ↦
          ap not (w.noted e.done inside ∙ le-ltb e.done x.noted_count (omega (arith, same)))
          ∙ sym (eq-eqb x.noted_count e.done same)
      | inr other ↦
          ap not (w.noted e.done inside ∙ lt-ltb e.done x.noted_count (omega (arith, other, least)))
          ∙ sym (ne_eqb x.noted_count e.done other)
    ]

module _ (s : FlashState) (n : IndexState) (t : BlocksState) (O : OpenTransactionsState)
    (k : BlocksInvariant s n t unsure.Nothing O) where
  pub ready_is : (i : ℕ) → i < length O.all → is_ready n (transaction_at O i) ≡ is_due_clear n (transaction_at O i)
  ready_is i within =
      let o = transaction_at O i in
      let its = k.each i no_transaction within in
      let name = name_at o.naming o.entry.done in
      ap (λ b. b && is_none (block_to_go n name.page name.version))
      (due_as_noted s.image n o.entry o.naming o.entry.mark
      (omega (arith, its.named.within, as_many_names o.naming.names o.entry.writes its.named.pages))
      (calm_at O.all k.doubt i within) its.marked)

  -- what is ready may be written in a slot that is free
  pub ready_due : (i : ℕ) (at : Slot) → i < length O.all → is_ready n (transaction_at O i) ≡ true → IsFirstFree t at.0 →
      IsJobDue n t O i (record { slot = at; rec = record_due n (transaction_at O i) })
  ready_due i at within passes first =
      let o = transaction_at O i in
      let name = name_at o.naming o.entry.done in
      let parts = and_parts (must_program o) (is_none (block_to_go n name.page name.version))
      (sym (ready_is i within) ∙ passes) in
      let due = and_parts (not (is_whole o.entry.mark)) (o.naming.noted_count == o.entry.done) parts.0 in
      record {
        due = record {
          exists = within;
          plain = plain_by o.entry.mark (not_true (is_whole o.entry.mark) due.0) (calm_at O.all k.doubt i within);
          unnoted = eqb-true o.naming.noted_count o.entry.done due.1;
        };
        clear = none_by (block_to_go n name.page name.version) parts.1;
        its = refl;
        first = first;
      }

  pub chosen_due : (dies : List ℕ) (i : ℕ) → All (λ die. die < t.shape.dies) dies →
      AreJobsDue n t O i (jobs_of n (chosen_from n t dies (drop i O.all)))
  chosen_due [] i low = tt
  chosen_due (die ∷ dies) i low =
      let Due : (List (Slot × TransactionState)) → Type 0 = λ chosen. AreJobsDue n t O i (jobs_of n chosen) in
      let later = All-tail (λ (d : ℕ). d < t.shape.dies) die dies low in
      elim (cases_Option (next_slot_in t die)) [
        | inl none ↦ subst Due (sym (chosen_full n t die dies (drop i O.all) none)) (chosen_due dies i later)
        | inr some ↦ elim (cases_lt i (length O.all)) [
          | inr past ↦ subst Due (sym (ap (chosen_from n t (die ∷ dies)) (drop_all i O.all past)
              ∙ chosen_ends n t (die ∷ dies))) tt
          | inl within ↦ (
              let o = transaction_at O i in
              let is : drop i O.all ≡ o ∷ drop (i + 1) O.all = drop_more O.all i no_transaction within in
              elim (cases_Bool (is_ready n o)) [
                | inr fails ↦ subst Due (sym (ap (chosen_from n t (die ∷ dies)) is
                    ∙ chosen_stops n t (die ∷ dies) o (drop (i + 1) O.all) fails)) tt
                | inl passes ↦ subst Due (sym (ap (chosen_from n t (die ∷ dies)) is
                    ∙ chosen_more n t die dies some.0 o (drop (i + 1) O.all) some.1 passes)) (
                      ready_due i some.0 within passes
                          (slot_in_stands t k.matches.table die some.0
                          (All-head (λ (d : ℕ). d < t.shape.dies) die dies low) some.1).first,
                      chosen_due dies (i + 1) later,
                    )
              ])
        ]
      ]

-- the slots lie in dies of their own, in their order
abbrev pub FromDie : Shape → ℕ → List Job → Type 0
FromDie shape die jobs = All (λ job. die ≤ die_of shape job.slot.0) jobs

abbrev IsSpread : IndexState → BlocksState → ℕ → List (Slot × TransactionState) → Type 0
IsSpread n t die chosen = InOrderOfDies t.shape (jobs_of n chosen) × FromDie t.shape die (jobs_of n chosen)

none_spread : (n : IndexState) (t : BlocksState) (die : ℕ) → IsSpread n t die []
none_spread n t die = (
  λ i j d less inside. absurd (omega arith),
  All-nil (λ (job : Job). die ≤ die_of t.shape job.slot.0),
)

first_spread : (n : IndexState) (t : BlocksState) → IsBlocksState t → (die : ℕ) (dies : List ℕ) (at : Slot)
    (os : List TransactionState) → die < t.shape.dies →
    next_slot_in t die ≡ Some at → ((os' : List TransactionState) → IsSpread n t (die + 1) (chosen_from n t dies os')) →
    IsSpread n t die (chosen_from n t (die ∷ dies) os)
first_spread n t good die dies at [] low some later = subst (IsSpread n t die) (sym (chosen_ends n t (die ∷ dies)))
    (none_spread n t die)
first_spread n t good die dies at (o ∷ os) low some later = elim (cases_Bool (is_ready n o)) [
  | inr fails ↦ subst (IsSpread n t die) (sym (chosen_stops n t (die ∷ dies) o os fails)) (none_spread n t die)
  | inl passes ↦ (
      let stands = slot_in_stands t good die at low some in
      let rest = later os in
      let more = jobs_of n (chosen_from n t dies os) in
      let job : Job = record { slot = at; rec = record_due n o } in
      subst (IsSpread n t die) (sym (chosen_more n t die dies at o os some passes)) (
        pairs_cons (λ (a b : Job). die_of t.shape a.slot.0 < die_of t.shape b.slot.0) job more (λ other inside.
            let up = All-contains (λ (x : Job). die + 1 ≤ die_of t.shape x.slot.0) more other rest.1 inside in
            let lies = stands.lies in omega (arith, up, lies)) rest.0,
        All-cons (λ (x : Job). die ≤ die_of t.shape x.slot.0) job more (let lies = stands.lies in omega (arith, lies))
            (λ j d inside. let up = rest.1 j d inside in omega (arith, up)),
      ))
]

pub chosen_dies : (n : IndexState) (t : BlocksState) → IsBlocksState t → (count die : ℕ) (os : List TransactionState) →
    die + count ≤ t.shape.dies →
    IsSpread n t die (chosen_from n t (range_with_len die count) os)
chosen_dies n t good zero die os most = none_spread n t die
chosen_dies n t good (suc count) die os most =
    let later : (os' : List TransactionState) →
    IsSpread n t (die + 1) (chosen_from n t (range_with_len (die + 1) count) os') = λ os'.
    chosen_dies n t good count (die + 1) os' (omega arith) in
    elim (cases_Option (next_slot_in t die)) [
      | inl none ↦ subst (IsSpread n t die) (sym (chosen_full n t die (range_with_len (die + 1) count) os none))
          (let rest = later os in (rest.0, λ j d inside. let up = rest.1 j d inside in omega (arith, up)))
      | inr some ↦ first_spread n t good die (range_with_len (die + 1) count) some.0 os (omega arith) some.1 later
    ]

range_low : (count die most : ℕ) → die + count ≤ most → All (λ d. d < most) (range_with_len die count)
range_low zero die most few = All-nil (λ (d : ℕ). d < most)
range_low (suc count) die most few =
    All-cons (λ (d : ℕ). d < most) die (range_with_len (die + 1) count) (omega arith)
    (range_low count (die + 1) most (omega arith))

-- the programs of the chosen transactions may be done together
pub chosen_can : {F : Type 0} (state : F → FlashState) (p : Protocol) (S : StoreState F) (O : OpenTransactionsState) →
    IsReady state p S O →
    O.page_bytes ≡ S.noted.config.page_bytes → jobs_of S.noted (chosen_in S.noted S.table O.all) ≢ [] →
    CanWriteAll state p S O (jobs_of S.noted (chosen_in S.noted S.table O.all))
chosen_can state p S O ready size some =
    let k : BlocksInvariant (state S.flash) S.noted S.table unsure.Nothing O =
    subst (λ u. BlocksInvariant (state S.flash) S.noted S.table u O) ready.sure (from_stands state S O ready.stands) in
    let dies = S.table.shape.dies in
    record {
      ready = ready;
      size = size;
      some = some;
      due = chosen_due (state S.flash) S.noted S.table O k (range_with_len 0 dies) 0
          (range_low dies 0 dies (omega arith));
      dies = subst (λ (sh : Shape). InOrderOfDies sh (jobs_of S.noted (chosen_in S.noted S.table O.all)))
          k.matches.blocks
          (chosen_dies S.noted S.table k.matches.table dies 0 O.all (omega arith)).0;
    }

pub ready_now : {F : Type 0} (state : F → FlashState) (p : Protocol) (S : StoreState F) (O : OpenTransactionsState) →
    IsReady state p S O → (i : ℕ) → i < length O.all →
    is_ready S.noted (transaction_at O i) ≡ is_due_clear S.noted (transaction_at O i)
ready_now state p S O ready i within =
    ready_is (state S.flash) S.noted S.table O (subst (λ u. BlocksInvariant (state S.flash) S.noted S.table u O)
    ready.sure (from_stands state S O ready.stands)) i
    within
