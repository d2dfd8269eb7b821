-- The open transactions where the next records of the first ones are noted.
use Rattle.tx_engine.proofs.Common.{◌≡◌, ℕ, ◌+◌, ◌<◌, ◌≤◌, ◌==◌, List, [], ◌∷◌, ◌++◌, length, map, drop, get_or, All, refl, sym, ap, ap₂, ◌∙◌, subst, inl, inr, arith, if◌then◌else◌, slice_set, cases_eq, cond-true, cond-false, append_assoc, get_or-map, get_or_default, length-append, length-map, map-append, All-head, All-tail, Plain, Whole, IndexState, BlocksState, Entry, AreJobsDue, nexts_noted, OpenTransactionsState, TransactionState, HasLimitsOf, entries_of, no_transaction, transaction_at, with_mark, with_noted_count, with_transaction, is_at_last, with_next, Job}
use Rattle.std.proofs.Common.{take}
use Rattle.std.proofs.lemmas.Bool.{eq-eqb, ne_eqb}
use Rattle.std.proofs.lemmas.List.{get_or_append_left, get_or-take, length-drop}
use Rattle.std.proofs.lemmas.List.{length-take-le, set_at, get_or_at, take-map, drop-map}
use Rattle.tx_engine.proofs.OfStepAll.BatchSteps.{marked}

pub nexts_limits : (jobs : List Job) (i : ℕ) (O : OpenTransactionsState) → HasLimitsOf O (nexts_noted i jobs O)
nexts_limits [] i O = record { page_bytes = refl; logical = refl; pending = refl }
nexts_limits (job ∷ jobs) i O =
    let rest = nexts_limits jobs (i + 1) (with_transaction O i (with_next (transaction_at O i))) in
    record { page_bytes = rest.page_bytes; logical = rest.logical; pending = rest.pending }

-- the others stand as before
pub nexts_all : (jobs : List Job) (i : ℕ) (before rest : List TransactionState) (O : OpenTransactionsState) →
    i ≡ length before → O.all ≡ before ++ rest →
    length jobs ≤ length rest →
    (nexts_noted i jobs O).all ≡ before ++ (map with_next (take (length jobs) rest) ++ drop (length jobs) rest)
nexts_all [] i before rest O at is few = is
nexts_all (job ∷ jobs) i before [] O at is few = absurd (omega arith)
nexts_all (job ∷ jobs) i before (o ∷ rest) O at is few =
    let here : transaction_at O i ≡ o = ap (λ (os : List TransactionState). get_or os i no_transaction) is
    ∙ get_or_at before o rest no_transaction i (sym at) in
    let now : (with_transaction O i (with_next (transaction_at O i))).all ≡ (before ++ with_next o ∷ []) ++ rest =
    ap (λ (x : TransactionState). slice_set O.all i (with_next x)) here
    ∙ ap (λ (os : List TransactionState). slice_set os i (with_next o)) is
    ∙ set_at before o rest (with_next o) i (sym at) ∙ sym (append_assoc before (with_next o ∷ []) rest) in
    let long : i + 1 ≡ length (before ++ with_next o ∷ []) =
    sym (length-append before (with_next o ∷ []) ∙ omega (arith, at)) in
    nexts_all jobs (i + 1) (before ++ with_next o ∷ []) rest (with_transaction O i (with_next (transaction_at O i)))
    long now (omega arith)
    ∙ append_assoc before (with_next o ∷ []) (map with_next (take (length jobs) rest) ++ drop (length jobs) rest)

-- each of them is due
pub record AreDue (O : OpenTransactionsState) (count : ℕ) : Type 0 where
  pub within : count ≤ length O.all
  pub plain : (k : ℕ) → k < count → (transaction_at O k).entry.mark ≡ Plain
  pub unnoted : (k : ℕ) → k < count → (transaction_at O k).naming.noted_count ≡ (transaction_at O k).entry.done

due_from : (n : IndexState) (t : BlocksState) (O : OpenTransactionsState) (jobs : List Job) (i : ℕ) →
    AreJobsDue n t O i jobs → (k : ℕ) → i ≤ k → k < i + length jobs →
    (k < length O.all) × ((transaction_at O k).entry.mark ≡ Plain)
    × ((transaction_at O k).naming.noted_count ≡ (transaction_at O k).entry.done)
due_from n t O [] i due k low high = absurd (omega arith)
due_from n t O (job ∷ jobs) i due k low high = elim (cases_eq k i) [
  | inl same ↦ subst (λ j. (j < length O.all) × ((transaction_at O j).entry.mark ≡ Plain)
      × ((transaction_at O j).naming.noted_count ≡ (transaction_at O j).entry.done))
      (sym same) (due.0.due.exists, due.0.due.plain, due.0.due.unnoted)
  | inr other ↦ due_from n t O jobs (i + 1) due.1 k (omega arith)
      (let long : length (job ∷ jobs) ≡ length jobs + 1 = omega arith in omega (arith, long))
]

pub are_due : (n : IndexState) (t : BlocksState) (O : OpenTransactionsState) (jobs : List Job) →
    AreJobsDue n t O 0 jobs → AreDue O (length jobs)
are_due n t O [] due = record {
  within = omega arith;
  plain = λ k less. absurd (omega arith);
  unnoted = λ k less. absurd (omega arith);
}
are_due n t O (job ∷ jobs) due = record {
  within = let last = due_from n t O (job ∷ jobs) 0 due (length jobs) (omega arith)
      (let long : length (job ∷ jobs) ≡ length jobs + 1 = omega arith in omega (
        arith,
        long,
      )) in let long : length (job ∷ jobs) ≡ length jobs + 1 = omega arith in omega (arith, long, last.0);
  plain = λ k less. (due_from n t O (job ∷ jobs) 0 due k (omega arith) (omega arith)).1;
  unnoted = λ k less. (due_from n t O (job ∷ jobs) 0 due k (omega arith) (omega arith)).2;
}

module _ (O : OpenTransactionsState) (jobs : List Job) (due : AreDue O (length jobs)) where
  abbrev count : ℕ
  count = length jobs

  pub all_nexts : (nexts_noted 0 jobs O).all ≡ map with_next (take count O.all) ++ drop count O.all
  all_nexts = nexts_all jobs 0 [] O.all O refl refl due.within

  pub nexts_long : length (nexts_noted 0 jobs O).all ≡ length O.all
  nexts_long =
      ap length all_nexts ∙ length-append (map with_next (take count O.all)) (drop count O.all)
      ∙ (let a = length-map (take count O.all) with_next in let b = length-take-le count O.all due.within in
      let c = length-drop count O.all in
      omega (arith, a, b, c, due.within))

  pub next_at : (k : ℕ) → k < count → transaction_at (nexts_noted 0 jobs O) k ≡ with_next (transaction_at O k)
  next_at k less =
      let long : length (take count O.all) ≡ count = length-take-le count O.all due.within in
      let mapped = length-map (take count O.all) with_next in
      ap (λ (os : List TransactionState). get_or os k no_transaction) all_nexts
      ∙ get_or_append_left (map with_next (take count O.all)) (drop count O.all) no_transaction k
      (omega (arith, long, mapped))
      ∙ get_or-map with_next (take count O.all) k no_transaction no_transaction (omega (arith, long))
      ∙ ap with_next (get_or-take count O.all k no_transaction less)

pub marked_next : (o : TransactionState) → o.naming.noted_count ≡ o.entry.done → (with_next o).entry ≡ marked o.entry
marked_next o due =
    ap (λ (x : TransactionState). x.entry) (ap (λ k. if k + 1 == length o.entry.writes
    then with_mark (with_noted_count o (o.naming.noted_count + 1)) Whole
    else with_noted_count o (o.naming.noted_count + 1)) due)
    ∙ (elim (cases_eq (o.entry.done + 1) (length o.entry.writes)) [
      | inl last ↦
          ap (λ (x : TransactionState). x.entry) (cond-true (is_at_last o.entry)
          (with_mark (with_noted_count o (o.naming.noted_count + 1)) Whole)
          (with_noted_count o (o.naming.noted_count + 1)) (eq-eqb (o.entry.done + 1) (length o.entry.writes) last))
          ∙ sym (cond-true (is_at_last o.entry) (record o.entry { mark = Whole }) o.entry
          (eq-eqb (o.entry.done + 1) (length o.entry.writes) last))
      | inr more ↦
          ap (λ (x : TransactionState). x.entry) (cond-false (is_at_last o.entry)
          (with_mark (with_noted_count o (o.naming.noted_count + 1)) Whole)
          (with_noted_count o (o.naming.noted_count + 1)) (ne_eqb (o.entry.done + 1) (length o.entry.writes) more))
          ∙ sym (cond-false (is_at_last o.entry) (record o.entry { mark = Whole }) o.entry
          (ne_eqb (o.entry.done + 1) (length o.entry.writes) more))
    ])

map_marked : (os : List TransactionState) → All (λ o. o.naming.noted_count ≡ o.entry.done) os →
    map (λ (o : TransactionState). o.entry) (map with_next os) ≡ map marked (map (λ (o : TransactionState). o.entry) os)
map_marked [] h = refl
map_marked (o ∷ os) h =
    ap₂ (λ (e : Entry) es. e ∷ es)
    (marked_next o (All-head (λ (o : TransactionState). o.naming.noted_count ≡ o.entry.done) o os h))
    (map_marked os (All-tail (λ (o : TransactionState). o.naming.noted_count ≡ o.entry.done) o os h))

pub nexts_entries : (O : OpenTransactionsState) (jobs : List Job) → AreDue O (length jobs) →
    entries_of (nexts_noted 0 jobs O) ≡ map marked (take (length jobs) (entries_of O))
    ++ drop (length jobs) (entries_of O)
nexts_entries O jobs due =
    let count = length jobs in
    let its = λ (o : TransactionState). o.entry in
    let taken : All (λ (o : TransactionState). o.naming.noted_count ≡ o.entry.done) (take count O.all) = λ k d inside.
    (let long : length (take count O.all) ≡ count = length-take-le count O.all due.within in
    let less : k < count = omega (arith, long, inside) in
    let at : get_or (take count O.all) k d ≡ transaction_at O k =
    get_or_default (take count O.all) k d no_transaction inside ∙
    get_or-take count O.all k no_transaction less
    in
    subst (λ (x : TransactionState). x.naming.noted_count ≡ x.entry.done) (sym at) (due.unnoted k less)) in
    ap (map its) (all_nexts O jobs due) ∙ map-append its (map with_next (take count O.all)) (drop count O.all)
    ∙ ap₂ (λ xs ys. xs ++ ys) (map_marked (take count O.all) taken ∙ ap (map marked) (sym (take-map its count O.all)))
    (sym (drop-map its count O.all))
