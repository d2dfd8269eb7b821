-- Where no transaction is chosen the first one takes a step, which is a step of the device.
use Rattle.tx_engine.proofs.Common.{◌≡◌, ℕ, ◌+◌, ◌<◌, Bool, false, [], ◌++◌, length, All, Some, Ok, refl, sym, ap, ◌∙◌, subst, inl, inr, arith, eq-eqb, ne_eqb, if◌then◌else◌, cond-true, cond-false, cond_both, Config, FlashState, moment_of, IsThere, Progress, ArrayState, Entry, entry_of, taken_writes, AdvancesTo, SettlesDevice, StepCosts, StepsDevice, VersionsRise, done_writes, is_plain, is_there, settled_writes, OpenTransactionsState, entries_of, transaction_at, AddsOnly, is_at_last, settlement_of, with_settlement, DeviceState, Stands, GoesOn, settled, StoreState, device_in, BringsPage}
use Rattle.array_machine.specs.declared.answers.Progress.TheVariants as progress
use Rattle.tx_engine.specs.Exits.{plain_writes}
use Rattle.tx_engine.proofs.OfAbort.Aborting.{entry_settled}
use Rattle.tx_engine.proofs.OfCollect.Collecting.{own_writes_low, settled_low}
use Rattle.open_table.proofs.OfTransactions.OpenList.{entry_first, first_of_own}
use Rattle.tx_engine.proofs.OfDevice.ExitsThen.{exits_then, rises_then}
use Rattle.tx_engine.proofs.OfDevice.Kept.{from_stands}
use Rattle.tx_engine.proofs.OfStep.StepExits.{done_low, for_next, for_open, ok_as, step_settled, step_since}
use Rattle.tx_engine.proofs.OfStep.StepWrites.{brings_then, costs_then, found_then, notes_then, works_then}

-- what a settled transaction takes in a step
pub taken_done : (s : ArrayState) (tag : ℕ) (e : Entry) (p : Progress) (new : ArrayState) → GoesOn s tag e p new →
    taken_writes e ≡ done_writes (Some e) (Ok p)
taken_done s tag e (progress.Wrote done all) new h =
    cond-false (is_at_last e) (plain_writes e) [] (ne_eqb (e.done + 1) (length e.writes)
    (λ same. absurd (let less = h.1 in omega (arith, less, same))))
taken_done s tag e progress.Done new (inl whole) =
    let none : plain_writes e ≡ [] = ap (λ m. if is_plain m then e.writes else []) whole.0 in
    ap (λ ws. if is_at_last e then ws else []) none ∙ cond_both (is_at_last e) [] [] (λ ws. ws ≡ []) (λ is. refl)
    (λ is. refl) ∙ sym none
taken_done s tag e progress.Done new (inr last) = cond-true (is_at_last e) (plain_writes e) []
    (eq-eqb (e.done + 1) (length e.writes) last.1)

module _ {F : Type 0} (state : F → FlashState) (S S1 S2 : StoreState F) (O O1 O2 : OpenTransactionsState) (u : Unit {0})
    (p : Progress)
    (stands : Stands state (device_in state S O)) (st : SettlesDevice state S S1 O O1 (Ok u))
    (adv : AdvancesTo state S1 S2 O1 O2 0 (Ok p))
    (within : 0 < length O.all) where
  abbrev old : DeviceState F
  old = device_in state S O

  abbrev mid : DeviceState F
  mid = device_in state S1 O1

  abbrev new : DeviceState F
  new = device_in state S2 O2

  abbrev there : Bool
  there = is_there state old

  abbrev tag : ℕ
  tag = (transaction_at O 0).entry.tag

  pub stepped : StepsDevice state old new tag (Ok p)
  stepped =
      let was = from_stands state S O stands in
      let kept = from_stands state S1 O1 st.stands in
      let first = first_of_own O.all 0 was.tags within in
      let found = entry_first tag O.all 0 first in
      let at = entry_settled there O O1 0 (ap (λ (m : ArrayState). m.entries) st.settles.machine) within in
      let tags : (transaction_at O1 0).entry.tag ≡ tag = ap (λ (e : Entry). e.tag) at.1 in
      let mine : entry_of tag (settled there old.machine).entries ≡ Some (transaction_at O1 0).entry =
      ap (λ (m : ArrayState). entry_of tag m.entries) (sym st.settles.machine)
      ∙ ap (λ t. entry_of t (entries_of O1)) (sym tags)
      ∙ entry_first (transaction_at O1 0).entry.tag O1.all 0 (first_of_own O1.all 0 kept.tags at.0) in
      record {
        steps = step_settled there old.machine mid.machine new.machine tag (transaction_at O 0).entry
            (transaction_at O1 0).entry (Ok p) (Ok p) found
            st.settles.machine at.1 tags adv.advances (λ q is. ok_as p q (Ok p) refl is) (λ is. cc);
        exits = exits_then state old mid new false refl refl st.exits adv.exits;
        rises = subst (λ o. VersionsRise old new (settled_writes there old.machine ++ done_writes o (Ok p))) (sym mine)
            (rises_then state old mid new (settled_writes there old.machine)
            (done_writes (Some (transaction_at O1 0).entry) (Ok p))
            st.exits.tables.config (settled_low state S O there stands)
            (subst (λ (k : Config). All (λ w. w.page < k.logical)
            (done_writes (Some (transaction_at O1 0).entry) (Ok p))) st.exits.tables.config
            (done_low S1.noted.config.logical (transaction_at O1 0).entry p
            (own_writes_low (state S1.flash) S1.noted O1 S1.table S1.unsure kept 0 at.0)))
            st.exits.tables.versions adv.exits.tables.versions st.settles.rises adv.rises);
        sure = adv.sure;
        unknown = λ is. cc;
        costs = for_next state S O tag 0 (StepCosts state (with_settlement state old) new) first
            (costs_then state S S1 O O1 0 there st.tables.0 st.tables.1 st.moment st.names first.within at.1 new
            st.exits.tables.config adv.costs);
        found = for_next state S O tag 0
            (λ name. IsThere (settlement_of state old).noted name →
            moment_of (state new.flash) ≡ moment_of (state old.flash)) first
            (found_then state S S1 O O1 0 there st.tables.0 st.tables.1 st.moment st.names first.within at.1
            S2 adv.found);
        brings = for_open state S O tag 0 (BringsPage state old new) first
            (brings_then state S S1 O O1 0 there st.tables.0 st.tables.1 st.moment st.names first.within at.1 S2 O2
            st.exits.tables.config
            st.exits.carries.shape adv.found st.reads adv.writes);
        fresh = for_next state S O tag 0 (λ name. AddsOnly name (settlement_of state old).noted new.noted) first
            (notes_then state S S1 O O1 0 there st.tables.0 st.tables.1 st.moment st.names first.within at.1
            S2.noted adv.fresh);
        failed = λ is. cc;
        since = λ other. step_since state S O tag 0 false (with_settlement state old) new first
            (works_then state S S1 O O1 0 there st.tables.0 st.tables.1 st.moment st.names first.within at.1 S2 O2 false
            st.exits.tables.config st.exits.carries.shape adv.since);
      }
