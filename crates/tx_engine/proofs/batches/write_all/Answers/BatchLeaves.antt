-- Programs that were broken, each by itself: the tables that match what they left, by induction over states in which no
-- flash was.
use Rattle.tx_engine.proofs.Common.{◌≡◌, ◌≢◌, ℕ, ◌+◌, ◌<◌, List, [], ◌∷◌, ◌++◌, length, refl, sym, ap, ◌∙◌, subst, inl, inr, arith, eq-eqb, ne_eqb, slice_index, cases_eq, cond-true, cond-false, all_from, pairs_head, pairs_tail, Config, Outcome, FlashState, die_of, left_each, load_left, IsSoundImage, array_in, records_in, found_in, IndexState, damaged_at, mention_of, programmed, mention, BlocksState, with_slot, array_known, MayTakeEach, Entry, Pages, page_at, put, AreJobsDue, InOrderOfDies, load_of, loads_for, taken_writes, ExitsTables, MentionsAtMost, OpenTransactionsState, bytes_due, namings_of, transaction_at, with_transaction, is_at_last, with_next, Job}
use Rattle.flash_model.specs.declared.outcome.Outcome.TheVariants as outcome
use Rattle.collector.specs.declared.unsure.Unsure.TheVariants as unsure
use Rattle.array_machine.specs.Step.{IsAtLast}
use Rattle.tx_engine.specs.Held.{AddsNoHeld, AddsNoHeldIn}
use Rattle.tx_engine.proofs.OfDevice.ExitsThen.{before_itself, tables_then}
use Rattle.tx_engine.proofs.OfDevice.HeldRecords.{held_between, held_itself, held_kept, held_then}
use Rattle.tx_engine.proofs.OfDevice.Kept.{BlocksInvariant}
use Rattle.tx_engine.proofs.OfStepAll.JobsBeside.{jobs_beside, loads_beside, pages_low, spoilt_off}
use Rattle.tx_engine.proofs.OfStepAll.LoadLeft.{HasLaws, kept_same, spoilt_kept, spoilt_pages, spoilt_preserves, whole_kept}
use Rattle.tx_engine.proofs.batches.write_all.Answers.Wholes.{entries_for, device_with, taken_next, whole_beside, whole_entries, whole_loads, whole_pages}
use Rattle.tx_engine.proofs.batches.write_all.Answers.Wholes.{whole_held, whole_tables}

-- tables that match what was left: each transaction at its last page was taken or not
pub record SomeLeft {F : Type 0} (f : F) (s s' : FlashState) (n : IndexState) (t : BlocksState)
    (O : OpenTransactionsState) (i : ℕ) (jobs : List Job) : Type 0 where
  pub noted : IndexState
  pub table : BlocksState
  pub opens : OpenTransactionsState
  pub kept : BlocksInvariant s' noted table unsure.Nothing opens
  pub tables : ExitsTables (device_with f s.image n t O) (device_with f s'.image noted table opens)
  pub taken : MayTakeEach (array_known n s.image) IsAtLast (entries_for O i jobs) (array_known noted s'.image)
  pub held : AddsNoHeld n.config.protocol n.config.logical (found_in n.notes) (found_in noted.notes)

-- the transaction's program is whole: it is taken where that was its last page
took : (old mid new : Pages) (e : Entry) (es fs : List Entry) → mid ≡ put old (taken_writes e) → fs ≡ es →
    (e.done + 1 ≡ length e.writes → taken_writes e ≡ e.writes) →
    (e.done + 1 ≢ length e.writes → taken_writes e ≡ []) → MayTakeEach mid IsAtLast fs new →
    MayTakeEach old IsAtLast (e ∷ es) new
took old mid new e es fs is same whole more h =
    let its : MayTakeEach (put old (taken_writes e)) IsAtLast es new =
    subst (λ ps. MayTakeEach ps IsAtLast es new) is (subst (λ l. MayTakeEach mid IsAtLast l new) same h) in
    elim (cases_eq (e.done + 1) (length e.writes)) [
      | inl last ↦ inr (last, subst (λ ws. MayTakeEach (put old ws) IsAtLast es new) (whole last) its)
      | inr fewer ↦ inl (subst (λ ws. MayTakeEach (put old ws) IsAtLast es new) (more fewer) its)
    ]

pub some_left : {F : Type 0} (f : F) (jobs : List Job) (hows : List Outcome) (s s' : FlashState) (n : IndexState)
    (t : BlocksState) (O : OpenTransactionsState) (i : ℕ) →
    HasLaws n.config.protocol → BlocksInvariant s n t unsure.Nothing O → O.page_bytes ≡ n.config.page_bytes →
    AreJobsDue n t O i jobs → InOrderOfDies s.shape jobs →
    length hows ≡ length jobs → s'.shape ≡ s.shape → s'.image ≡ left_each s.image (loads_for n O i jobs) hows →
    SomeLeft f s s' n t O i jobs
some_left {F} f [] hows s s' n t O i laws k size due dies long shape image = record {
  noted = n;
  table = t;
  opens = O;
  kept = kept_same s s' n t unsure.Nothing O shape image k;
  tables = record {
    config = refl;
    versions = λ page low. inr (refl, ap (λ im. page_at (array_known n im) page) image);
    mentions = λ page low. inl refl;
    names = before_itself (namings_of O);
    kept = refl;
  };
  taken = ap (array_known n) image;
  held = held_itself n.config.protocol n.config.logical (found_in n.notes);
}
some_left {F} f (job ∷ jobs) [] s s' n t O i laws k size due dies long shape image = absurd (omega arith)
some_left {F} f (job ∷ jobs) (outcome.None ∷ hows) s s' n t O i laws k size due dies long shape image =
    let rest = some_left f jobs hows s s' n t O (i + 1) laws k size due.1
    (pairs_tail (λ (a b : Job). die_of s.shape a.slot.0 < die_of s.shape b.slot.0) job jobs dies) (omega arith)
    shape image in
    record {
      noted = rest.noted;
      table = rest.table;
      opens = rest.opens;
      kept = rest.kept;
      tables = rest.tables;
      taken = inl rest.taken;
      held = rest.held;
    }
some_left {F} f (job ∷ jobs) (outcome.Bad ∷ hows) s s' n t O i laws k size due dies long shape image =
    let mid : FlashState = record s { image = load_left s.image (load_of n job (bytes_due O i)) outcome.Bad } in
    let n1 = damaged_at n job.slot.0 in
    let t1 = with_slot t job.slot.0 in
    let kept = spoilt_kept s n t O i job laws k size due.0 mid refl refl in
    let keeps = spoilt_preserves s n t O i job laws k size due.0 mid refl refl in
    let pages = spoilt_pages s n t O i job laws k size due.0 mid refl refl in
    let loads = loads_beside n n1 O O i refl refl (λ j other. refl) jobs (i + 1) (omega arith) in
    let later = jobs_beside n n1 t O O s.shape k.matches.blocks i job.slot.0 (pages_low s n t O k)
    (spoilt_off s n t O i job laws k size due.0 mid refl refl)
    (λ j other. refl) refl jobs (i + 1) (omega arith)
    (all_from (λ (x : Job). die_of s.shape job.slot.0 < die_of s.shape x.slot.0) jobs
    (λ x inside. pairs_head (λ (a b : Job). die_of s.shape a.slot.0 < die_of s.shape b.slot.0) job jobs x dies inside))
    due.1 in
    let rest = some_left f jobs hows mid s' n1 t1 O (i + 1) laws kept size later
    (pairs_tail (λ (a b : Job). die_of s.shape a.slot.0 < die_of s.shape b.slot.0) job jobs dies) (omega arith) shape
    (image ∙ ap (λ ls. left_each mid.image ls hows) (sym loads)) in
    let a = device_with f s.image n t O in
    let b = device_with f mid.image n1 t1 O in
    let first : ExitsTables a b = record {
      config = refl;
      versions = λ page low. inr (keeps.current page low, ap (λ (ps : Pages). page_at ps page) pages);
      mentions = λ page low. inl (ap (λ (ms : List ℕ). slice_index ms page) keeps.mentions);
      names = before_itself (namings_of O);
      kept = refl;
    } in
    record {
      noted = rest.noted;
      table = rest.table;
      opens = rest.opens;
      kept = rest.kept;
      tables = tables_then (λ (x : F). s) a b (device_with f s'.image rest.noted rest.table rest.opens) refl refl
          first rest.tables;
      taken = inl (subst (λ ps. MayTakeEach ps IsAtLast (entries_for O (i + 1) jobs) (array_known rest.noted s'.image))
          pages rest.taken);
      held = held_then n.config.protocol n.config.logical (found_in n.notes) (found_in n1.notes)
          (found_in rest.noted.notes) (held_kept n n1 keeps) rest.held;
    }
some_left {F} f (job ∷ jobs) (outcome.All ∷ hows) s s' n t O i laws k size due dies long shape image =
    let mid : FlashState = record s { image = load_left s.image (load_of n job (bytes_due O i)) outcome.All } in
    let o = transaction_at O i in
    let n1 = programmed n job.slot.0 job.rec in
    let t1 = with_slot t job.slot.0 in
    let O1 = with_transaction O i (with_next o) in
    let kept = whole_kept s n t O i job laws k size due.0 mid refl refl in
    let loads = whole_loads f s n t O i job laws k size due.0 mid refl refl jobs in
    let rest = some_left f jobs hows mid s' n1 t1 O1 (i + 1) laws kept size
    (whole_beside f s n t O i job laws k size due.0 mid refl refl jobs dies due.1)
    (pairs_tail (λ (a b : Job). die_of s.shape a.slot.0 < die_of s.shape b.slot.0) job jobs dies) (omega arith) shape
    (image ∙ ap (λ ls. left_each mid.image ls hows) (sym loads)) in
    let plain = taken_next o.entry due.0.due.plain in
    record {
      noted = rest.noted;
      table = rest.table;
      opens = rest.opens;
      kept = rest.kept;
      tables = tables_then (λ (x : F). s) (device_with f s.image n t O) (device_with f mid.image n1 t1 O1)
          (device_with f s'.image rest.noted rest.table rest.opens)
          refl refl (whole_tables f s n t O i job laws k size due.0 mid refl refl) rest.tables;
      taken = took (array_known n s.image) (array_known n1 mid.image) (array_known rest.noted s'.image) o.entry
          (entries_for O (i + 1) jobs)
          (entries_for O1 (i + 1) jobs) (whole_pages f s n t O i job laws k size due.0 mid refl refl)
          (whole_entries f s n t O i job laws k size due.0 mid refl refl jobs)
          (λ last. plain ∙ cond-true (is_at_last o.entry) o.entry.writes []
          (eq-eqb (o.entry.done + 1) (length o.entry.writes) last))
          (λ fewer. plain ∙ cond-false (is_at_last o.entry) o.entry.writes []
          (ne_eqb (o.entry.done + 1) (length o.entry.writes) fewer)) rest.taken;
      held = held_then n.config.protocol n.config.logical (found_in n.notes) (found_in n1.notes)
          (found_in rest.noted.notes) (whole_held f s n t O i job laws k size due.0 mid refl refl) rest.held;
    }

-- transactions that were not chosen are not taken
pub take_fewer : (es fs : List Entry) (old new : Pages) (Q : Entry → Type 0) → MayTakeEach old Q es new →
    MayTakeEach old Q (es ++ fs) new
take_fewer [] [] old new Q h = h
take_fewer [] (x ∷ fs) old new Q h = inl (take_fewer [] fs old new Q h)
take_fewer (e ∷ es) fs old new Q (inl h) = inl (take_fewer es fs old new Q h)
take_fewer (e ∷ es) fs old new Q (inr h) = inr (h.0, take_fewer es fs (put old e.writes) new Q h.1)

module _ {F : Type 0} (f : F) (s s' : FlashState) (n : IndexState) (t : BlocksState) (O : OpenTransactionsState) (i : ℕ)
    (jobs : List Job) (laws : HasLaws n.config.protocol)
    (left : SomeLeft f s s' n t O i jobs) where
  its_laws : HasLaws left.noted.config.protocol
  its_laws = subst (λ (c : Config). HasLaws c.protocol) (sym left.tables.config) laws

  pub left_sound : IsSoundImage n.config.protocol n.config.logical s'.shape s'.image
  left_sound = subst (λ (c : Config). IsSoundImage c.protocol c.logical s'.shape s'.image) left.tables.config
      left.kept.matches.sound

  pub left_array : MayTakeEach (array_known n s.image) IsAtLast (entries_for O i jobs)
      (array_in n.config.protocol n.config.logical s'.image)
  left_array = subst (MayTakeEach (array_known n s.image) IsAtLast (entries_for O i jobs))
      (sym (its_laws.images.array s' left.noted left.table unsure.Nothing left.kept.matches tt refl)
      ∙ ap (λ (c : Config). array_in c.protocol c.logical s'.image) left.tables.config) left.taken

  left_records : records_in n.config.protocol s'.image ≡ found_in left.noted.notes
  left_records = ap (λ (c : Config). records_in c.protocol s'.image) (sym left.tables.config)
      ∙ its_laws.images.records s' left.noted left.table unsure.Nothing left.kept.matches tt refl

  pub left_held : BlocksInvariant s n t unsure.Nothing O →
      AddsNoHeldIn n.config.protocol n.config.logical s.image s'.image
  left_held k = held_between n.config.protocol n.config.logical s.image s'.image (found_in n.notes)
      (found_in left.noted.notes) (laws.images.records s n t unsure.Nothing k.matches tt refl) left_records left.held

  pub left_mentions : MentionsAtMost n (namings_of O) s'.image
  left_mentions page low =
      let there : page < left.noted.config.logical = subst (λ (c : Config). page < c.logical)
      (sym left.tables.config) low in
      let most = left.kept.matches.noted.mentioned page there in
      let count : mention (records_in n.config.protocol s'.image) page ≡ mention (found_in left.noted.notes) page =
      ap (λ l. mention l page) left_records in
      elim (left.tables.mentions page low) [
        | inl same ↦ inl (omega (arith, most, count, same))
        | inr rose ↦ inr (mention_of left.noted page, rose.1, omega (arith, most, count))
      ]
