-- An open transaction of a settled device goes on.
use Rattle.tx_engine.proofs.Common.{◌≡◌, ◌≢◌, ℕ, ◌+◌, ◌<◌, ◌≤◌, ◌==◌, true, false, not, ◌&&◌, List, [], length, Ok, Err, refl, sym, ap, ap₂, ◌∙◌, subst, inl, inr, arith, eqb-true, eq-eqb, ne_eqb, if◌then◌else◌, cases_eq, cond-true, cond-false, cond_both, eqb-false, map-set_same, PageWrite, FlashState, Broken, current_of, ArrayState, Entry, Pages, has_tag, is_doubted, put, with_entry, without, Mark, Plain, Doubt, Whole, Progress, VersionsRise, is_plain, DeviceState, Stands, IsAsMarked, GoesOn, OpenTransactionsState, TransactionState, no_transaction, transaction_at, entries_of, with_transaction, with_mark, with_noted_count, with_next, is_at_last, next_writes, must_program, CountsOn, Counts, Advances, AdvanceRises, WriteFails, StoreState, device_in}
use Rattle.collector.specs.declared.unsure.Unsure.TheVariants as unsure
use Rattle.array_machine.specs.declared.answers.Progress.TheVariants as progress
use Rattle.tx_engine.specs.Settling.{is_whole}
use Rattle.tx_engine.proofs.OfAbort.Aborting.{rises_on}
use Rattle.tx_engine.proofs.OfDevice.Kept.{from_stands}
use Rattle.open_table.proofs.OfTransactions.OpenList.{IsFirstTagged, first_of_own, with_first}
use Rattle.tx_engine.proofs.OfSettle.SettledLists.{calm_at}
use Rattle.array_machine.proofs.UnbrokenCalls.{goes_again}
use Rattle.tx_engine.proofs.OfWrite.WriteAfter.{settled_kept}

-- Whether the next page is due
ready_mark : (m : Mark) (o : TransactionState) → is_doubted m ≡ false →
    (m ≡ Plain → o.entry.done ≤ o.naming.noted_count) → o.entry.mark ≡ m → must_program o ≡ false →
    CountsOn o
ready_mark Plain o calm least is due =
    let none : (o.naming.noted_count == o.entry.done) ≡ false =
    ap (λ m. not (is_whole m) && (o.naming.noted_count == o.entry.done)) (sym is) ∙ due in
    let other = eqb-false o.naming.noted_count o.entry.done none in
    let low = least refl in
    inr (is, omega (arith, other))
ready_mark Doubt o calm least is due = cc
ready_mark Whole o calm least is due = inl is

due_mark : (m : Mark) (o : TransactionState) → is_doubted m ≡ false → o.entry.mark ≡ m → must_program o ≡ true →
    (o.entry.mark ≡ Plain) × (o.naming.noted_count ≡ o.entry.done)
due_mark Plain o calm is due =
    let same : (o.naming.noted_count == o.entry.done) ≡ true =
    ap (λ m. not (is_whole m) && (o.naming.noted_count == o.entry.done)) (sym is) ∙ due in
    (is, eqb-true o.naming.noted_count o.entry.done same)
due_mark Doubt o calm is due = cc
due_mark Whole o calm is due =
    let no : false ≡ true = ap (λ m. not (is_whole m) && (o.naming.noted_count == o.entry.done)) (sym is) ∙ due in cc

least_of : {F : Type 0} (state : F → FlashState) (S : StoreState F) (o : TransactionState) (m : Mark) →
    IsAsMarked (state S.flash).image S.noted o.entry o.naming m →
    m ≡ Plain → o.entry.done ≤ o.naming.noted_count
least_of state S o Plain w is = w.least
least_of state S o Doubt w is = w.0.least
least_of state S o Whole w is = cc

pub not_due_ready : {F : Type 0} (state : F → FlashState) (S : StoreState F) (O : OpenTransactionsState) (i : ℕ) →
    Stands state (device_in state S O) →
    S.unsure ≡ unsure.Nothing → i < length O.all →
    must_program (transaction_at O i) ≡ false → CountsOn (transaction_at O i)
not_due_ready state S O i h sure within due =
    let k = settled_kept state S O h sure in
    let o = transaction_at O i in
    ready_mark o.entry.mark o (calm_at O.all k.doubt i within)
    (least_of state S o o.entry.mark (k.each i no_transaction within).marked) refl due

pub due_plain : {F : Type 0} (state : F → FlashState) (S : StoreState F) (O : OpenTransactionsState) (i : ℕ) →
    Stands state (device_in state S O) →
    S.unsure ≡ unsure.Nothing → i < length O.all →
    must_program (transaction_at O i) ≡ true → ((transaction_at O i).entry.mark ≡ Plain)
    × ((transaction_at O i).naming.noted_count ≡ (transaction_at O i).entry.done)
due_plain state S O i h sure within due =
    let k = settled_kept state S O h sure in
    due_mark (transaction_at O i).entry.mark (transaction_at O i) (calm_at O.all k.doubt i within) refl due

pub next_ready : (o : TransactionState) → o.entry.mark ≡ Plain → o.naming.noted_count ≡ o.entry.done →
    CountsOn (with_next o)
next_ready o plain due =
    cond_both (o.naming.noted_count + 1 == length o.entry.writes)
    (with_mark (with_noted_count o (o.naming.noted_count + 1)) Whole)
    (with_noted_count o (o.naming.noted_count + 1)) CountsOn
    (λ is. inl refl) (λ is. inr (plain, omega (arith, due)))

plain_writes_all : (m : Mark) (ws : List PageWrite) → m ≡ Plain → (if is_plain m then ws else []) ≡ ws
plain_writes_all Plain ws is = refl
plain_writes_all Doubt ws is = cc
plain_writes_all Whole ws is = cc

-- It goes on after its next page was written
module _ (s mid new : ArrayState) (tag : ℕ) (e f : Entry) (plain : e.mark ≡ Plain)
    (pages : mid.pages ≡ put s.pages (next_writes e))
    (entries : mid.entries ≡ with_entry tag f s.entries)
    (tagged : has_tag tag f ≡ true) (whole : e.done + 1 ≡ length e.writes → f ≡ record e { mark = Whole })
    (same : e.done + 1 ≢ length e.writes → (f ≡ e) × (with_entry tag e s.entries ≡ s.entries)) where
  last_pages : e.done + 1 ≡ length e.writes → mid.pages ≡ put s.pages e.writes
  last_pages last = pages ∙ ap (put s.pages) (cond-true (is_at_last e) e.writes []
      (eq-eqb (e.done + 1) (length e.writes) last))

  more_state : e.done + 1 ≢ length e.writes → mid ≡ s
  more_state more =
      let kept : mid.pages ≡ s.pages = pages
      ∙ ap (put s.pages) (cond-false (is_at_last e) e.writes [] (ne_eqb (e.done + 1) (length e.writes) more)) in
      let stay : mid.entries ≡ s.entries = entries ∙ ap (λ g. with_entry tag g s.entries) (same more).0
      ∙ (same more).1 in
      ap₂ (λ (ps : Pages) (es : List Entry). record { pages = ps; entries = es }) kept stay

  pub written_advances : (p : Progress) → Counts mid tag f p new → Advances s tag e (Ok p) new
  written_advances (progress.Wrote done all) h = elim (cases_eq (e.done + 1) (length e.writes)) [
    | inl last ↦ (let no : Plain ≡ Whole = sym h.0 ∙ ap (λ (g : Entry). g.mark) (whole last) in cc)
    | inr more ↦ subst (λ m. GoesOn m tag e (progress.Wrote done all) new) (more_state more)
        (subst (λ g. GoesOn mid tag g (progress.Wrote done all) new) (same more).0 h)
  ]
  written_advances progress.Done h = elim (cases_eq (e.done + 1) (length e.writes)) [
    | inl last ↦ inr (
      plain,
      last,
      h.1 ∙ ap₂ (λ (ps : Pages) (es : List Entry). record { pages = ps; entries = es }) (last_pages
          last) (ap (without tag) entries ∙ goes_again tag f s.entries tagged),
    )
    | inr more ↦ (let no : Plain ≡ Whole = sym plain ∙ ap (λ (g : Entry). g.mark) (sym (same more).0) ∙ h.0 in cc)
  ]

  pub written_rises : {F : Type 0} (a b c : DeviceState F) → VersionsRise a b (next_writes e) →
      ((page : ℕ) → current_of c.noted page ≡ current_of b.noted page) →
      (p : Progress) → Counts mid tag f p new → AdvanceRises a c e (Ok p)
  written_rises a b c first after (progress.Wrote done all) h = elim (cases_eq (e.done + 1) (length e.writes)) [
    | inl last ↦ (let no : Plain ≡ Whole = sym h.0 ∙ ap (λ (g : Entry). g.mark) (whole last) in cc)
    | inr more ↦ rises_on a b c [] (subst (VersionsRise a b)
        (cond-false (is_at_last e) e.writes [] (ne_eqb (e.done + 1) (length e.writes) more)) first) after
  ]
  written_rises a b c first after progress.Done h = elim (cases_eq (e.done + 1) (length e.writes)) [
    | inl last ↦ subst (VersionsRise a c) (sym (plain_writes_all e.mark e.writes plain))
        (rises_on a b c e.writes (subst (VersionsRise a b)
        (cond-true (is_at_last e) e.writes [] (eq-eqb (e.done + 1) (length e.writes) last)) first) after)
    | inr more ↦ (let no : Plain ≡ Whole = sym plain ∙ ap (λ (g : Entry). g.mark) (sym (same more).0) ∙ h.0 in cc)
  ]

-- the entries, where a transaction was replaced
pub entries_with : (o : OpenTransactionsState) (i : ℕ) (new : TransactionState) (tag : ℕ) → IsFirstTagged tag o.all i →
    entries_of (with_transaction o i new) ≡ with_entry tag new.entry (entries_of o)
entries_with o i new tag first = sym (with_first tag o.all i new first)

pub entries_same : (o : OpenTransactionsState) (i : ℕ) (tag : ℕ) → IsFirstTagged tag o.all i →
    with_entry tag (transaction_at o i).entry (entries_of o) ≡ entries_of o
entries_same o i tag first =
    with_first tag o.all i (transaction_at o i) first ∙ map-set_same (λ (x : TransactionState). x.entry) o.all i
    (transaction_at o i) no_transaction refl

pub next_entry : (o : TransactionState) → o.naming.noted_count ≡ o.entry.done →
    (o.entry.done + 1 ≡ length o.entry.writes → (with_next o).entry ≡ record o.entry { mark = Whole })
    × (o.entry.done + 1 ≢ length o.entry.writes → (with_next o).entry ≡ o.entry)
next_entry o due = (
  (λ last. ap (λ (x : TransactionState). x.entry)
      (cond-true (o.naming.noted_count + 1 == length o.entry.writes)
      (with_mark (with_noted_count o (o.naming.noted_count + 1)) Whole)
      (with_noted_count o (o.naming.noted_count + 1))
      (eq-eqb (o.naming.noted_count + 1) (length o.entry.writes) (ap (λ k. k + 1) due ∙ last)))),
  (λ more. ap (λ (x : TransactionState). x.entry)
      (cond-false (o.naming.noted_count + 1 == length o.entry.writes)
      (with_mark (with_noted_count o (o.naming.noted_count + 1)) Whole)
      (with_noted_count o (o.naming.noted_count + 1))
      (ne_eqb (o.naming.noted_count + 1) (length o.entry.writes) (λ e. more (ap (λ k. k + 1) (sym due) ∙ e))))),
)

-- and where its write failed
pub failed_advances : {F : Type 0} (state : F → FlashState) (S S' : StoreState F) (O O' : OpenTransactionsState) (i : ℕ)
    (b : Broken) → Stands state (device_in state S O) →
    i < length O.all →
    (transaction_at O i).entry.mark ≡ Plain → WriteFails (device_in state S O) (device_in state S' O') O O' i →
    Advances (device_in state S O).machine (transaction_at O i).entry.tag (transaction_at O i).entry (Err b)
    (device_in state S' O').machine
failed_advances state S S' O O' i b h within plain w =
    let k = from_stands state S O h in
    let first = first_of_own O.all i k.tags within in (
      plain,
      elim w.opens [
        | inl same ↦ inl (ap₂ (λ (ps : Pages) (t : OpenTransactionsState). record {
          pages = ps;
          entries = entries_of t;
        }) w.pages same)
        | inr doubt ↦ inr (
          doubt.0,
          ap₂ (λ (ps : Pages) (es : List Entry). record { pages = ps; entries = es }) w.pages
              (ap entries_of doubt.1 ∙ entries_with O i (with_mark (transaction_at O i) Doubt)
              (transaction_at O i).entry.tag first),
        )
      ],
    )
