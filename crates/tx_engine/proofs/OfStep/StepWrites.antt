-- What a step did with its next page, by the tables that are known once the device is settled.
use Rattle.tx_engine.proofs.Common.{◌≡◌, ℕ, ◌<◌, Bool, length, sym, ap, ◌∙◌, subst, Config, Link, FlashState, moment_of, IndexState, counted_times, IsThere, Settlement, slots_read, Entry, StepCosts, OpenTransactionsState, transaction_at, AddsOnly, settlement_of, with_settlement, DeviceState, Naming, name_at, no_name, settled_entry, StoreState, device_in, BringsPage, due_record, WritingBreaks}
use Rattle.std.specs.Prelude.{slice_index_or}
use Rattle.tx_engine.specs.LastWrite.{StepWorks}
use Rattle.tx_engine.specs.Settling.{HasTables}
use Rattle.tx_engine.specs.Writing.{WritesRecord}
use Rattle.tx_engine.proofs.OfWrite.Breaking.{breaks_from}
use Rattle.tx_engine.proofs.OfStep.CostFacts.{costs_from}
use Rattle.tx_engine.proofs.OfDevice.OpenNames.{all_names, names_at}
use Rattle.tx_engine.proofs.OfWrite.LastWrites.{works_from}
use Rattle.tx_engine.proofs.OfWrite.RecordWrites.{writes_from}

-- only the pins of a store changed
abbrev pub KeepsButPins : {F : Type 0} → StoreState F → StoreState F → Type 0
KeepsButPins old new = new ≡ record old { noted = record old.noted { pins = new.noted.pins } }

-- so it has the tables that its settled device has
pub has_tables : {F : Type 0} (state : F → FlashState) (found : Settlement) (T U : StoreState F)
    (Q : OpenTransactionsState) → T.noted ≡ found.noted → T.table ≡ found.table →
    KeepsButPins T U →
    HasTables found (device_in state U Q)
has_tables state found T U Q is_noted is_table stays = record {
  noted = ap (λ (s : StoreState _). s.noted) stays ∙ ap (λ (n : IndexState). record n { pins = U.noted.pins }) is_noted;
  table = ap (λ (s : StoreState _). s.table) stays ∙ is_table;
}

module _ {F : Type 0} (state : F → FlashState) (S T : StoreState F) (O P : OpenTransactionsState) (i : ℕ) (there : Bool)
    (is_noted : T.noted ≡ (settlement_of state (device_in state S O)).noted)
    (is_table : T.table ≡ (settlement_of state (device_in state S O)).table)
    (moment : moment_of (state T.flash) ≡ moment_of (state S.flash)) (names : all_names P ≡ all_names O)
    (within : i < length O.all)
    (entry : (transaction_at P i).entry ≡ settled_entry there (transaction_at O i).entry) where
  abbrev e : Entry
  e = (transaction_at O i).entry

  abbrev x : Naming
  x = (transaction_at O i).naming

  abbrev f : Entry
  f = (transaction_at P i).entry

  abbrev y : Naming
  y = (transaction_at P i).naming

  abbrev found : Settlement
  found = settlement_of state (device_in state S O)

  same_names : (k : ℕ) → name_at y k ≡ name_at x k
  same_names k = ap (λ ns. slice_index_or ns k no_name) (names_at O P i names within)

  name_is : name_at y f.done ≡ name_at x e.done
  name_is = same_names f.done ∙ ap (λ (a : Entry). name_at x a.done) entry

  due_is : (size : ℕ) → due_record size f y ≡ due_record size e x
  due_is size =
      ap (λ ns. due_record size f (record y { names = ns })) (names_at O P i names within)
      ∙ ap (λ (a : Entry). due_record size a x) entry

  -- it is there once the device settled
  here_then : IsThere found.noted (name_at x e.done) → IsThere T.noted (name_at y f.done)
  here_then here = subst (λ (n : IndexState). IsThere n (name_at y f.done)) (sym is_noted)
      (subst (IsThere found.noted) (sym name_is) here)

  here_before : IsThere T.noted (name_at y f.done) → IsThere found.noted (name_at x e.done)
  here_before here = subst (IsThere found.noted) name_is (subst (λ (n : IndexState). IsThere n (name_at y f.done))
      is_noted here)

  pub costs_then : (new : DeviceState F) → T.noted.config ≡ S.noted.config →
      StepCosts state (device_in state T P) new (name_at y f.done) →
      StepCosts state (with_settlement state (device_in state S O)) new (name_at x e.done)
  costs_then new config h =
      costs_from state (with_settlement state (device_in state S O)) (device_in state T P) new (name_at x e.done) moment
      config is_noted is_table
      (subst (StepCosts state (device_in state T P) new) name_is h)

  pub found_then : (U : StoreState F) → (IsThere T.noted (name_at y f.done) → KeepsButPins T U) →
      IsThere found.noted (name_at x e.done) →
      moment_of (state U.flash) ≡ moment_of (state S.flash)
  found_then U stays here = ap (λ (s : StoreState F). moment_of (state s.flash)) (stays (here_then here)) ∙ moment

  pub brings_then : (U : StoreState F) (Q : OpenTransactionsState) → T.noted.config ≡ S.noted.config →
      (state T.flash).shape ≡ (state S.flash).shape →
      (IsThere T.noted (name_at y f.done) → KeepsButPins T U) →
      (state T.flash).reads ≡ counted_times (slots_read S.noted S.unsure) (state S.flash).reads →
      ((IsThere T.noted (name_at y f.done) → ⊥) →
      WritesRecord state (device_in state T P) (device_in state U Q) (due_record T.noted.config.page_bytes f y)) →
      BringsPage state (device_in state S O) (device_in state U Q) e x
  brings_then U Q config shape stays reads writes = record {
    there = λ here. record {
      tables = has_tables state found T U Q is_noted is_table (stays (here_then here));
      reads = ap (λ (s : StoreState F). (state s.flash).reads) (stays (here_then here)) ∙ reads;
    };
    absent = λ none.
        let w = writes (λ here. none (here_before here)) in
        let due = due_is T.noted.config.page_bytes ∙ ap (λ (k : Config). due_record k.page_bytes e x) config in
        writes_from state (with_settlement state (device_in state S O)) (device_in state T P) (device_in state U Q)
        (due_record S.noted.config.page_bytes e x)
        moment shape is_noted is_table (subst (WritesRecord state (device_in state T P) (device_in state U Q)) due w);
  }

  pub breaks_then : (U : StoreState F) (Q : OpenTransactionsState) → (state T.flash).shape ≡ (state S.flash).shape →
      WritingBreaks state (device_in state T P) (device_in state U Q) (name_at y f.done) →
      WritingBreaks state (with_settlement state (device_in state S O)) (device_in state U Q) (name_at x e.done)
  breaks_then U Q shape w =
      breaks_from state (with_settlement state (device_in state S O)) (device_in state T P) (device_in state U Q)
      (name_at x e.done) moment shape is_noted
      is_table
      (subst (WritingBreaks state (device_in state T P) (device_in state U Q)) name_is w)

  pub notes_then : (n' : IndexState) → AddsOnly (name_at y f.done) T.noted n' →
      AddsOnly (name_at x e.done) found.noted n'
  notes_then n' adds = subst (λ (a : Link). AddsOnly a found.noted n') name_is
      (subst (λ (n : IndexState). AddsOnly (name_at y f.done) n n') is_noted adds)

  pub works_then : (U : StoreState F) (Q : OpenTransactionsState) (broken : Bool) → T.noted.config ≡ S.noted.config →
      (state T.flash).shape ≡ (state S.flash).shape →
      StepWorks state (device_in state T P) (device_in state U Q) f y broken →
      StepWorks state (with_settlement state (device_in state S O)) (device_in state U Q) e x broken
  works_then U Q broken config shape w =
      works_from state (with_settlement state (device_in state S O)) (device_in state T P) (device_in state U Q) e there
      x y config shape moment is_table (names_at O P i names within) broken
      (subst (λ (a : Entry). StepWorks state (device_in state T P) (device_in state U Q) a y broken) entry w)
