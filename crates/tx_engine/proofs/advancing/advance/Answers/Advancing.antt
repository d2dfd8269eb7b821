-- How a transaction of a settled device goes on, as a whole: it counts a page that is noted, or a page is written
-- before, or its write broke off.
use Rattle.tx_engine.proofs.Common.{◌≡◌, ℕ, ◌<◌, true, false, List, [], length, Ok, Err, refl, sym, ap, ◌∙◌, subst, inl, inr, eq-eqb, ◌+◌, ◌≢◌, if◌then◌else◌, All-nil, PageWrite, Protocol, Broken, FlashState, current_of, Progress, Mark, Plain, Doubt, Whole, ArrayState, Entry, with_entry, AdvancesTo, IsReady, WritesPage, VersionsRise, is_plain, HasLimitsOf, IsDueAt, OpenTransactionsState, TransactionState, entries_of, name_due, transaction_at, Advances, AdvanceRises, Counts, CountsOn, must_program, with_next, DeviceState, StoreState, device_in, due_record, Config, IsThere, length-set, moment_of}
use Rattle.array_machine.specs.declared.answers.Progress.TheVariants as progress
use Rattle.tx_engine.specs.Calls.{CountsNext}
use Rattle.tx_engine.proofs.OfStep.AdvanceExits.{due_plain, entries_same, entries_with, failed_advances, next_entry, next_ready, written_advances}
use Rattle.tx_engine.proofs.OfStep.AdvanceExits.{written_rises}
use Rattle.tx_engine.proofs.OfStep.CostFacts.{costs_flash, costs_still}
use Rattle.tx_engine.proofs.OfDevice.ExitsThen.{exits_then}
use Rattle.tx_engine.proofs.OfDevice.Kept.{from_stands}
use Rattle.tx_engine.proofs.OfSettle.NextNoted.{next_parts}
use Rattle.tx_engine.proofs.OfSettle.NextSet.{transaction_set}
use Rattle.tx_engine.proofs.OfStep.NextThere.{adds_pinned, due_not_there, not_due_there}
use Rattle.open_table.proofs.OfTransactions.OpenList.{IsFirstTagged, first_of_own}
use Rattle.tx_engine.proofs.OfWrite.LastWrites.{works_pinned}
use Rattle.tx_engine.proofs.OfWrite.RecordWrites.{writes_pinned}

counts_advances : (s new : ArrayState) (tag : ℕ) (e : Entry) (p : Progress) → Counts s tag e p new →
    Advances s tag e (Ok p) new
counts_advances s new tag e (progress.Wrote done all) h = h
counts_advances s new tag e progress.Done h = inl h

none_rise : {F : Type 0} (a b : DeviceState F) → ((page : ℕ) → current_of b.noted page ≡ current_of a.noted page) →
    VersionsRise a b []
none_rise a b same = record {
  rises = All-nil (λ (w : PageWrite). current_of a.noted w.page < current_of b.noted
      w.page);
  stays = λ page low others. same page;
}

whole_writes : (m : Mark) (ws : List PageWrite) → m ≡ Whole → (if is_plain m then ws else []) ≡ []
whole_writes Plain ws is = cc
whole_writes Doubt ws is = cc
whole_writes Whole ws is = refl

counts_rises : {F : Type 0} (a b : DeviceState F) (s new : ArrayState) (tag : ℕ) (e : Entry) (p : Progress) →
    ((page : ℕ) → current_of b.noted page ≡ current_of a.noted page) →
    Counts s tag e p new → AdvanceRises a b e (Ok p)
counts_rises a b s new tag e (progress.Wrote done all) same h = none_rise a b same
counts_rises a b s new tag e progress.Done same h = subst (VersionsRise a b) (sym (whole_writes e.mark e.writes h.0))
    (none_rise a b same)

module _ {F : Type 0} (state : F → FlashState) (p : Protocol) (S : StoreState F) (O : OpenTransactionsState) (i : ℕ)
    (ready : IsReady state p S O)
    (within : i < length O.all) where
  abbrev o : TransactionState
  o = transaction_at O i

  pub counted_on : must_program o ≡ false → (S' : StoreState F) (O' : OpenTransactionsState) (done : Progress) →
      CountsNext state S S' O O' i done →
      AdvancesTo state S S' O O' i (Ok done)
  counted_on due S' O' done k = record {
    stands = k.stands;
    advances = counts_advances (device_in state S O).machine (device_in state S' O').machine o.entry.tag o.entry
        done k.counts;
    exits = k.exits;
    rises = counts_rises (device_in state S O) (device_in state S' O') (device_in state S O).machine
        (device_in state S' O').machine o.entry.tag o.entry
        done k.versions k.counts;
    sure = k.sure;
    limits = k.limits;
    costs = costs_still state (device_in state S O) (device_in state S' O') (name_due O i)
        (ap (λ (T : StoreState F). moment_of (state T.flash)) k.stays);
    found = λ here. k.stays;
    writes = λ absent. absurd (absent (not_due_there state S O i ready.stands ready.sure within due));
    fresh = λ name here. inl (subst (λ (T : StoreState F). IsThere T.noted name) k.stays here);
    kept = tt;
    breaks = tt;
    since = inl (
      ap (λ (T : StoreState F). moment_of (state T.flash)) k.stays,
      ap (λ (T : StoreState F). T.table.spare) k.stays,
    );
  }

  module _ (due : must_program o ≡ true) where
    pub must_program_at : IsDueAt O i
    must_program_at = let its = due_plain state S O i ready.stands ready.sure within due in
        record { exists = within; plain = its.0; unnoted = its.1 }

    not_there : IsThere S.noted (name_due O i) → ⊥
    not_there here = due_not_there state S O i ready.stands ready.sure within due here

    pub advance_breaks : (S' : StoreState F) (O' : OpenTransactionsState) (x y : Broken) →
        WritesPage state S S' O O' i (Err x) → AdvancesTo state S S' O O' i (Err y)
    advance_breaks S' O' x y w =
        let same : HasLimitsOf O O = record { page_bytes = refl; logical = refl; pending = refl } in
        record {
          stands = w.stands;
          advances = failed_advances state S S' O O' i y ready.stands within must_program_at.plain w.failed;
          exits = w.exits;
          rises = w.failed.rises;
          sure = tt;
          limits = elim w.failed.opens [
            | inl is ↦ subst (HasLimitsOf O) (sym is) same
            | inr is ↦ subst (HasLimitsOf O) (sym is.1) (record { page_bytes = refl; logical = refl; pending = refl })
          ];
          costs = w.costs;
          found = λ here. absurd (not_there here);
          writes = tt;
          fresh = tt;
          kept = w.failed.kept;
          breaks = w.breaks;
          since = w.since;
        }

    module _ (S1 : StoreState F) (O1 : OpenTransactionsState) (w : WritesPage state S S1 O O1 i (Ok tt)) where
      is_next : transaction_at O1 i ≡ with_next o
      is_next = ap (λ (t : OpenTransactionsState). transaction_at t i) w.next ∙ transaction_set O i (with_next o) within

      pub counts_then : CountsOn (transaction_at O1 i)
      counts_then = subst CountsOn (sym is_next) (next_ready o must_program_at.plain must_program_at.unnoted)

      pub exists_then : i < length O1.all
      exists_then = subst (λ (t : OpenTransactionsState). i < length t.all) (sym w.next)
          (subst (λ len. i < len) (sym (length-set O.all i (with_next o))) within)

      pub ready_then : IsReady state p S1 O1
      ready_then = record {
        stands = w.stands;
        rule = ap (λ (k : Config). k.protocol) w.exits.tables.config
            ∙ ready.rule;
        sure = w.sure;
      }

      module _ (S2 : StoreState F) (O2 : OpenTransactionsState) (done : Progress)
          (k : CountsNext state S1 S2 O1 O2 i done) where
        abbrev a : DeviceState F
        a = device_in state S O

        abbrev b : DeviceState F
        b = device_in state S1 O1

        abbrev c : DeviceState F
        c = device_in state S2 O2

        tag : (transaction_at O1 i).entry.tag ≡ o.entry.tag
        tag = ap (λ (x : TransactionState). x.entry.tag) is_next ∙ (next_parts o).tag

        counts : Counts b.machine o.entry.tag (transaction_at O1 i).entry done c.machine
        counts = subst (λ t. Counts b.machine t (transaction_at O1 i).entry done c.machine) tag k.counts

        first : IsFirstTagged o.entry.tag O.all i
        first = first_of_own O.all i (from_stands state S O ready.stands).tags within

        entries : b.machine.entries ≡ with_entry o.entry.tag (transaction_at O1 i).entry a.machine.entries
        entries = ap entries_of w.next ∙ entries_with O i (with_next o) o.entry.tag first
            ∙ ap (λ (x : TransactionState). with_entry o.entry.tag x.entry (entries_of O)) (sym is_next)

        whole : o.entry.done + 1 ≡ length o.entry.writes → (transaction_at O1 i).entry ≡ record o.entry { mark = Whole }
        whole last = ap (λ (x : TransactionState). x.entry) is_next ∙ (next_entry o must_program_at.unnoted).0 last

        same : o.entry.done + 1 ≢ length o.entry.writes →
            ((transaction_at O1 i).entry ≡ o.entry)
            × (with_entry o.entry.tag o.entry a.machine.entries ≡ a.machine.entries)
        same more = (
          ap (λ (x : TransactionState). x.entry) is_next ∙ (next_entry o must_program_at.unnoted).1 more,
          entries_same O i o.entry.tag first,
        )

        pub advanced : AdvancesTo state S S2 O O2 i (Ok done)
        advanced = record {
          stands = k.stands;
          advances = written_advances a.machine b.machine c.machine o.entry.tag o.entry (transaction_at O1 i).entry
              must_program_at.plain w.written.pages entries
              (eq-eqb (transaction_at O1 i).entry.tag o.entry.tag tag) whole same done counts;
          exits = exits_then state a b c false refl refl w.exits k.exits;
          rises = written_rises a.machine b.machine c.machine o.entry.tag o.entry (transaction_at O1 i).entry
              must_program_at.plain w.written.pages entries
              (eq-eqb (transaction_at O1 i).entry.tag o.entry.tag tag) whole same a b c w.written.rises
              k.versions done counts;
          sure = k.sure;
          limits = record {
            page_bytes = k.limits.page_bytes ∙ ap (λ (t : OpenTransactionsState). t.page_bytes) w.next;
            logical = k.limits.logical ∙ ap (λ (t : OpenTransactionsState). t.logical) w.next;
            pending = k.limits.pending ∙ ap (λ (t : OpenTransactionsState). t.pending) w.next;
          };
          costs = costs_flash state a b c (name_due O i) (ap (λ (T : StoreState F). T.flash) k.stays) w.costs;
          found = λ here. absurd (not_there here);
          writes = λ absent. writes_pinned state a b c (due_record S.noted.config.page_bytes o.entry o.naming)
              (ap (λ (T : StoreState F). T.flash) k.stays) (ap (λ (T : StoreState F). T.table) k.stays)
              (ap (λ (T : StoreState F). T.noted) k.stays) w.writes;
          fresh = adds_pinned (name_due O i) S.noted S1.noted S2.noted w.fresh
              (ap (λ (T : StoreState F). T.noted) k.stays);
          kept = tt;
          breaks = tt;
          since = works_pinned state a b c o.entry o.naming (ap (λ (T : StoreState F). T.flash) k.stays)
              (ap (λ (T : StoreState F). T.table) k.stays) w.since;
        }
