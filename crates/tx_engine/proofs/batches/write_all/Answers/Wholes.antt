-- Programs that were done together leave a device as one after another would: by induction over states in which no
-- flash was.
use Rattle.tx_engine.proofs.Common.{◌≡◌, ◌≢◌, ℕ, ◌+◌, ◌<◌, false, List, [], ◌∷◌, length, replicate, All, refl, sym, ap, ap₂, ◌∙◌, subst, inl, inr, arith, eq-eqb, ne_eqb, slice_set, if◌then◌else◌, flat_map, map-set_same, cases_eq, cond-true, cond-false, cond_both, length-set, All-nil, All-append, all_from, pairs_head, pairs_tail, PageWrite, FlashState, Contents, die_of, left_each, load_left, IndexState, current_of, found_in, programmed, BlocksState, with_slot, array_known, Plain, Entry, page_at, put, AreJobsDue, CanNoteEach, InOrderOfDies, IsJobDue, load_of, loads_for, nexts_noted, noted_each, taken_writes, takes_each, used_each, ExitsTables, VersionsRise, is_plain, OpenTransactionsState, TransactionState, bytes_due, entries_of, namings_of, no_transaction, transaction_at, with_transaction, is_at_last, next_writes, with_next, DeviceState, Job}
use Rattle.flash_model.specs.declared.outcome.Outcome.TheVariants as outcome
use Rattle.collector.specs.declared.unsure.Unsure.TheVariants as unsure
use Rattle.tx_engine.specs.BatchCalls.{CanNoteJob}
use Rattle.tx_engine.specs.Held.{AddsNoHeld}
use Rattle.tx_engine.proofs.OfCollect.Collecting.{own_writes_low}
use Rattle.tx_engine.proofs.OfSettle.NextNoted.{IsNextOf, last_array, names_before, next_array, next_mentions, next_parts, next_stays, next_versions}
use Rattle.tx_engine.proofs.OfSettle.NextNoted.{writes_rise, writes_stay}
use Rattle.tx_engine.proofs.OfDevice.ExitsThen.{before_itself, rises_then, tables_then}
use Rattle.tx_engine.proofs.OfDevice.HeldRecords.{held_itself, held_noted, held_then}
use Rattle.tx_engine.proofs.OfDevice.ImageMoves.{KeepsNoted, image_array}
use Rattle.tx_engine.proofs.OfDevice.Kept.{BlocksInvariant}
use Rattle.tx_engine.proofs.OfStepAll.JobsBeside.{jobs_beside, loads_beside, pages_low, whole_off}
use Rattle.tx_engine.proofs.OfStepAll.JobsStay.{due_beside}
use Rattle.tx_engine.proofs.OfStepAll.LoadLeft.{HasLaws, job_named, kept_same, left_stay, whole_kept, whole_next}

-- a device with these tables, over an image
abbrev pub device_with : {F : Type 0} → F → List Contents → IndexState → BlocksState →
    OpenTransactionsState → DeviceState F
device_with f image n t O = record {
  flash = f;
  config = n.config;
  machine = record { pages = array_known n image; entries = entries_of O };
  namings = namings_of O;
  noted = n;
  table = t;
  unsure = unsure.Nothing;
  dropped = false;
}

-- the transactions to which programs belong
abbrev pub entries_for : OpenTransactionsState → ℕ → List Job → List Entry
entries_for O i [] = []
entries_for O i (job ∷ jobs) = (transaction_at O i).entry ∷ entries_for O (i + 1) jobs

pub entries_beside : (O O' : OpenTransactionsState) (i : ℕ) →
    ((j : ℕ) → j ≢ i → transaction_at O' j ≡ transaction_at O j) → (jobs : List Job) (j : ℕ) → i < j →
    entries_for O' j jobs ≡ entries_for O j jobs
entries_beside O O' i opens [] j less = refl
entries_beside O O' i opens (job ∷ jobs) j less =
    ap₂ (λ (e : Entry) es. e ∷ es) (ap (λ (x : TransactionState). x.entry) (opens j (λ same. absurd (omega arith))))
    (entries_beside O O' i opens jobs (j + 1) (omega arith))

-- what a plain transaction takes with its next page
pub taken_next : (e : Entry) → e.mark ≡ Plain → taken_writes e ≡ next_writes e
taken_next e plain = ap (λ ws. if is_at_last e then ws else []) (ap (λ m. if is_plain m then e.writes else []) plain)

module _ {F : Type 0} (f : F) (s : FlashState) (n : IndexState) (t : BlocksState) (O : OpenTransactionsState) (i : ℕ)
    (job : Job) (laws : HasLaws n.config.protocol)
    (k : BlocksInvariant s n t unsure.Nothing O) (size : O.page_bytes ≡ n.config.page_bytes) (h : IsJobDue n t O i job)
    (s' : FlashState) (shape : s'.shape ≡ s.shape)
    (image : s'.image ≡ load_left s.image (load_of n job (bytes_due O i)) outcome.All) where
  abbrev o : TransactionState
  o = transaction_at O i

  abbrev n' : IndexState
  n' = programmed n job.slot.0 job.rec

  abbrev t' : BlocksState
  t' = with_slot t job.slot.0

  abbrev O' : OpenTransactionsState
  O' = with_transaction O i (with_next o)

  abbrev before : DeviceState F
  before = device_with f s.image n t O

  abbrev after : DeviceState F
  after = device_with f s'.image n' t' O'

  next : IsNextOf n.config.protocol n job.slot.0 job.rec s'.image o
  next = whole_next s n t O i job laws k size h s' shape image

  stay : KeepsNoted n s.image s'.image
  stay = left_stay s n t O i job laws k size h s' shape outcome.All image

  pub whole_tables : ExitsTables before after
  whole_tables = record {
    config = refl;
    versions = next_versions n.config.protocol laws.notes n job.slot.0 job.rec s.image s'.image o next stay;
    mentions = next_mentions n.config.protocol laws.notes n job.slot.0 job.rec s.image s'.image o next O.all i
        h.due.exists refl;
    names = names_before O.all (slice_set O.all i (with_next o))
        (map-set_same (λ (x : TransactionState). x.naming.names) O.all i (with_next o) no_transaction
        (next_parts o).names);
    kept = refl;
  }

  pub whole_pages : array_known n' s'.image ≡ put (array_known n s.image) (taken_writes o.entry)
  whole_pages = elim (cases_eq (o.entry.done + 1) (length o.entry.writes)) [
    | inl last ↦
        last_array n.config.protocol laws.notes n job.slot.0 job.rec s.image s'.image o next last
        ∙ ap (λ ps. put ps o.entry.writes) (image_array n s.image s'.image stay k.matches.noted)
        ∙ ap (put (array_known n s.image)) (sym (taken_next o.entry h.due.plain
        ∙ cond-true (is_at_last o.entry) o.entry.writes [] (eq-eqb (o.entry.done + 1) (length o.entry.writes) last)))
    | inr more ↦
        next_array n.config.protocol laws.notes n job.slot.0 job.rec s.image s'.image o next more
        ∙ image_array n s.image s'.image stay k.matches.noted
        ∙ ap (put (array_known n s.image)) (sym (taken_next o.entry h.due.plain
        ∙ cond-false (is_at_last o.entry) o.entry.writes [] (ne_eqb (o.entry.done + 1) (length o.entry.writes) more)))
  ]

  pub whole_rises : VersionsRise before after (taken_writes o.entry)
  whole_rises = subst (VersionsRise before after) (sym (taken_next o.entry h.due.plain))
      (elim (cases_eq (o.entry.done + 1) (length o.entry.writes)) [
        | inl last ↦ subst (VersionsRise before after)
            (sym (cond-true (is_at_last o.entry) o.entry.writes []
            (eq-eqb (o.entry.done + 1) (length o.entry.writes) last)))
            (record {
              rises = writes_rise n.config.protocol laws.notes n job.slot.0 job.rec s.image s'.image o next last;
              stays = λ page low others. writes_stay n.config.protocol laws.notes n job.slot.0 job.rec
                  s.image s'.image o
                  next last page low others;
            })
        | inr more ↦ subst (VersionsRise before after)
            (sym (cond-false (is_at_last o.entry) o.entry.writes []
            (ne_eqb (o.entry.done + 1) (length o.entry.writes) more)))
            (record {
              rises = All-nil (λ (w : PageWrite). current_of n w.page < current_of n' w.page);
              stays = λ page low others. next_stays n.config.protocol laws.notes n job.slot.0 job.rec s.image s'.image o
                  next more page low;
            })
      ])

  pub whole_held : AddsNoHeld n.config.protocol n.config.logical (found_in n.notes) (found_in n'.notes)
  whole_held = held_noted n.config.protocol laws.notes n job.slot.0 job.rec next.noted next.next next.within next.was

  pub whole_note : CanNoteJob n t job
  whole_note = record { exists = next.within; was = next.was; asked = next.next; free = h.first.free }

  pub whole_short : o.naming.noted_count < length o.entry.writes
  whole_short = let within = (job_named s n t O i job laws k size h).within in let due = h.due.unnoted in omega arith

  pub taken_low : All (λ w. w.page < n.config.logical) (taken_writes o.entry)
  taken_low =
      let low = own_writes_low s n O t unsure.Nothing k i h.due.exists in
      subst (All (λ (w : PageWrite). w.page < n.config.logical)) (sym (taken_next o.entry h.due.plain))
      (cond_both (is_at_last o.entry) o.entry.writes [] (All (λ (w : PageWrite). w.page < n.config.logical)) (λ is. low)
      (λ is. All-nil (λ (w : PageWrite). w.page < n.config.logical)))

  abbrev others_stay : (j : ℕ) → j ≢ i → transaction_at O' j ≡ transaction_at O j
  others_stay j other = due_beside O i j (with_next o) other

  pub whole_beside : (jobs : List Job) → InOrderOfDies s.shape (job ∷ jobs) → AreJobsDue n t O (i + 1) jobs →
      AreJobsDue n' t' O' (i + 1) jobs
  whole_beside jobs dies due =
      jobs_beside n n' t O O' s.shape k.matches.blocks i job.slot.0 (pages_low s n t O k)
      (whole_off s n t O i job laws k size h s' shape image) others_stay
      (length-set O.all i (with_next o)) jobs (i + 1) (omega arith)
      (all_from (λ (x : Job). die_of s.shape job.slot.0 < die_of s.shape x.slot.0) jobs
      (λ x inside. pairs_head (λ (a b : Job). die_of s.shape a.slot.0 < die_of s.shape b.slot.0) job jobs x
      dies inside)) due

  pub whole_loads : (jobs : List Job) → loads_for n' O' (i + 1) jobs ≡ loads_for n O (i + 1) jobs
  whole_loads jobs = loads_beside n n' O O' i refl refl others_stay jobs (i + 1) (omega arith)

  pub whole_entries : (jobs : List Job) → entries_for O' (i + 1) jobs ≡ entries_for O (i + 1) jobs
  whole_entries jobs = entries_beside O O' i others_stay jobs (i + 1) (omega arith)

-- what programs leave that were all done
pub record AllWhole {F : Type 0} (f : F) (s s' : FlashState) (n : IndexState) (t : BlocksState)
    (O : OpenTransactionsState) (i : ℕ) (jobs : List Job) : Type 0 where
  pub kept : BlocksInvariant s' (noted_each n jobs) (used_each t jobs) unsure.Nothing (nexts_noted i jobs O)
  pub can : CanNoteEach n t O i jobs
  pub tables : ExitsTables (device_with f s.image n t O)
      (device_with f s'.image (noted_each n jobs) (used_each t jobs) (nexts_noted i jobs O))
  pub pages : array_known (noted_each n jobs) s'.image ≡ takes_each (array_known n s.image) (entries_for O i jobs)
  pub rises : VersionsRise (device_with f s.image n t O)
      (device_with f s'.image (noted_each n jobs) (used_each t jobs) (nexts_noted i jobs O))
      (flat_map taken_writes (entries_for O i jobs))
  pub low : All (λ w. w.page < n.config.logical) (flat_map taken_writes (entries_for O i jobs))
  pub held : AddsNoHeld n.config.protocol n.config.logical (found_in n.notes) (found_in (noted_each n jobs).notes)

pub all_whole : {F : Type 0} (f : F) (jobs : List Job) (s s' : FlashState) (n : IndexState) (t : BlocksState)
    (O : OpenTransactionsState) (i : ℕ) → HasLaws n.config.protocol →
    BlocksInvariant s n t unsure.Nothing O → O.page_bytes ≡ n.config.page_bytes → AreJobsDue n t O i jobs →
    InOrderOfDies s.shape jobs → s'.shape ≡ s.shape →
    s'.image ≡ left_each s.image (loads_for n O i jobs) (replicate (length jobs) outcome.All) →
    AllWhole f s s' n t O i jobs
all_whole {F} f [] s s' n t O i laws k size due dies shape image = record {
  kept = kept_same s s' n t unsure.Nothing O shape image k;
  can = tt;
  tables = record {
    config = refl;
    versions = λ page low. inr (refl, ap (λ im. page_at (array_known n im) page) image);
    mentions = λ page low. inl refl;
    names = before_itself (namings_of O);
    kept = refl;
  };
  pages = ap (array_known n) image;
  rises = record {
    rises = All-nil (λ (w : PageWrite). current_of n w.page < current_of n w.page);
    stays = λ page low others. refl;
  };
  low = All-nil (λ (w : PageWrite). w.page < n.config.logical);
  held = held_itself n.config.protocol n.config.logical (found_in n.notes);
}
all_whole {F} f (job ∷ jobs) s s' n t O i laws k size due dies shape image =
    let mid : FlashState = record s { image = load_left s.image (load_of n job (bytes_due O i)) outcome.All } in
    let o = transaction_at O i in
    let n1 = programmed n job.slot.0 job.rec in
    let t1 = with_slot t job.slot.0 in
    let O1 = with_transaction O i (with_next o) in
    let kept = whole_kept s n t O i job laws k size due.0 mid refl refl in
    let loads = whole_loads f s n t O i job laws k size due.0 mid refl refl jobs in
    let entries = whole_entries f s n t O i job laws k size due.0 mid refl refl jobs in
    let rest = all_whole f jobs mid s' n1 t1 O1 (i + 1) laws kept size
    (whole_beside f s n t O i job laws k size due.0 mid refl refl jobs dies due.1)
    (pairs_tail (λ (a b : Job). die_of s.shape a.slot.0 < die_of s.shape b.slot.0) job jobs dies) shape
    (image ∙ ap (λ ls. left_each mid.image ls (replicate (length jobs) outcome.All)) (sym loads)) in
    let a = device_with f s.image n t O in
    let b = device_with f mid.image n1 t1 O1 in
    let c = device_with f s'.image (noted_each n1 jobs) (used_each t1 jobs) (nexts_noted (i + 1) jobs O1) in
    let first = whole_tables f s n t O i job laws k size due.0 mid refl refl in
    let low = taken_low f s n t O i job laws k size due.0 mid refl refl in
    let later : All (λ w. w.page < n.config.logical) (flat_map taken_writes (entries_for O (i + 1) jobs)) =
    subst (λ es. All (λ (w : PageWrite). w.page < n.config.logical) (flat_map taken_writes es)) entries rest.low in
    record {
      kept = rest.kept;
      can = (
        whole_note f s n t O i job laws k size due.0 mid refl refl,
        due.0.due.exists,
        whole_short f s n t O i job laws k size due.0 mid refl refl,
        rest.can,
      );
      tables = tables_then (λ (x : F). s) a b c refl refl first rest.tables;
      pages = rest.pages ∙ ap₂ (λ ps es. takes_each ps es) (whole_pages f s n t O i job laws k size due.0 mid refl refl)
          entries;
      rises = rises_then (λ (x : F). s) a b c (taken_writes o.entry)
          (flat_map taken_writes (entries_for O (i + 1) jobs)) refl low later first.versions
          rest.tables.versions
          (whole_rises f s n t O i job laws k size due.0 mid refl refl)
          (subst (λ es. VersionsRise b c (flat_map taken_writes es)) entries rest.rises);
      low = All-append (λ (w : PageWrite). w.page < n.config.logical) (taken_writes o.entry)
          (flat_map taken_writes (entries_for O (i + 1) jobs)) low later;
      held = held_then n.config.protocol n.config.logical (found_in n.notes) (found_in n1.notes)
          (found_in (noted_each n1 jobs).notes) (whole_held f s n t O i job laws k size due.0 mid refl refl) rest.held;
    }
