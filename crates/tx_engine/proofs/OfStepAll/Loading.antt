-- Loading the programs of several records, and noting these records: what is left to do comes to the same.
use Rattle.tx_engine.proofs.Common.{◌≡◌, ℕ, suc, ◌+◌, ◌<◌, ◌≤◌, false, List, [], ◌∷◌, ◌++◌, length, drop, get_or, All, Option, refl, sym, ap, ap₂, ◌∙◌, subst, arith, append_assoc, append-nil, drop_all, drop_more, length-set, All-head, all_from, pairs_head, pairs_tail, slots_of, Shape, CanBeSpelled, FlashState, Load, die_of, IndexState, programmed, BlocksState, with_slot, CanNoteEach, InOrderOfDies, load_of, loads_for, nexts_noted, noted_each, used_each, OpenTransactionsState, HasPlace, bytes_due, transaction_at, with_transaction, with_next, StoreState, Job}
use Rattle.std.proofs.lemmas.List.{length-replicate}
use Rattle.flash_model.specs.Firing.{AreFreeFrom, IsFreeAt, loads_in, no_loads, with_load}
use Rattle.tx_engine.specs.BatchCalls.{AreLoadable, CanLoadAll, CanLoadJob, ClearsRegisters, KeepsFlash, LoadsEach, LoadsJob}

-- what stands for a program where there is none
abbrev pub no_job : Job
no_job = record {
  slot = record { 0 = 0 };
  rec = record { page = 0; version = 0; next = record { page = 0; version = 0 }; back = 0; count = 0; discard = false };
}

module _ {F : Type 0} (state : F → FlashState) (registers : F → List (Option Load)) (S0 : StoreState F)
    (O : OpenTransactionsState) (jobs : List Job) where
  abbrev shape : Shape
  shape = (state S0.flash).shape

  -- this many of them are loaded
  pub record LoadedTo (S : StoreState F) (i : ℕ) : Type 0 where
    pub each : AreLoadable (state S0.flash) S0.noted O i (drop i jobs)
    pub dies : InOrderOfDies shape (drop i jobs)
    pub loaded : loads_in (registers S.flash) ++ loads_for S0.noted O i (drop i jobs) ≡ loads_for S0.noted O 0 jobs
    pub free : All (λ job. AreFreeFrom (registers S.flash) (die_of shape job.slot.0)) (drop i jobs)
    pub count : length (registers S.flash) ≡ shape.dies
    pub keeps : KeepsFlash state S0 S

  pub loaded_none : (S : StoreState F) → CanLoadAll state S O jobs → ClearsRegisters state registers S S0 →
      ((sh : Shape) → (loads_in (no_loads sh) ≡ []) × AreFreeFrom (no_loads sh) 0) → LoadedTo S0 0
  loaded_none S can clear none =
      let empty : registers S0.flash ≡ no_loads shape = clear.empty
      ∙ ap (λ (s : FlashState). no_loads s.shape) (sym clear.keeps.same) in
      record {
        each = subst (λ (s : FlashState). AreLoadable s S0.noted O 0 jobs) (sym clear.keeps.same)
            (subst (λ (T : StoreState F). AreLoadable (state S.flash) T.noted O 0 jobs)
            (sym clear.keeps.stays) can.each);
        dies = subst (λ (s : FlashState). InOrderOfDies s.shape jobs) (sym clear.keeps.same) can.dies;
        loaded = ap (λ loads. loads ++ loads_for S0.noted O 0 jobs) (ap loads_in empty ∙ (none shape).0);
        free = all_from (λ (job : Job). AreFreeFrom (registers S0.flash) (die_of shape job.slot.0)) jobs
            (λ job inside. subst (λ rs. AreFreeFrom rs (die_of shape job.slot.0)) (sym empty)
            (λ k low. (none shape).1 k (omega arith)));
        count = ap length empty ∙ length-replicate shape.dies _;
        keeps = record { same = refl; stays = refl };
      }

  module _ (S : StoreState F) (i : ℕ) (h : LoadedTo S i) (within : i < length jobs) where
    abbrev here : Job
    here = get_or jobs i no_job

    pub drop_here : drop i jobs ≡ here ∷ drop (i + 1) jobs
    drop_here = drop_more jobs i no_job within

    loadable : AreLoadable (state S0.flash) S0.noted O i (here ∷ drop (i + 1) jobs)
    loadable = subst (AreLoadable (state S0.flash) S0.noted O i) drop_here h.each

    pub place_here : HasPlace O i (transaction_at O i).entry.done
    place_here = loadable.0

    pub can_load_here : (bytes : List ℕ) → bytes ≡ bytes_due O i → CanLoadJob state registers S here bytes
    can_load_here bytes its = record {
      exists = subst (λ (s : FlashState). here.slot.0 < slots_of s.shape) (sym h.keeps.same) loadable.1;
      page = ap length its ∙ loadable.3 ∙ ap (λ (s : FlashState). s.shape.page_bytes) (sym h.keeps.same);
      free =
          let free = All-head (λ (j : Job). AreFreeFrom (registers S.flash) (die_of shape j.slot.0)) here
          (drop (i + 1) jobs)
          (subst (All (λ (j : Job). AreFreeFrom (registers S.flash) (die_of shape j.slot.0))) drop_here h.free) in
          subst (λ (s : FlashState). IsFreeAt s.shape (registers S.flash) here.slot.0) (sym h.keeps.same)
          (free (die_of shape here.slot.0) (omega arith));
      spelled = subst (λ (T : StoreState F). CanBeSpelled T.noted.config.protocol here.rec)
          (sym h.keeps.stays) loadable.4;
    }

  module _ (S S' : StoreState F) (i : ℕ) (job : Job) (bytes : List ℕ) (h : LoadedTo S i)
      (here : drop i jobs ≡ job ∷ drop (i + 1) jobs)
      (its : bytes ≡ bytes_due O i) (load : LoadsJob state registers S S' job bytes)
      (more : (sh : Shape) (rs : List (Option Load)) (l : Load) → die_of sh l.at < length rs →
      AreFreeFrom rs (die_of sh l.at) →
      loads_in (with_load sh rs l) ≡ loads_in rs ++ l ∷ [])
      (behind : (sh : Shape) (rs : List (Option Load)) (l : Load) → AreFreeFrom rs (die_of sh l.at) →
      AreFreeFrom (with_load sh rs l) (suc (die_of sh l.at)))
    where
      each_here : AreLoadable (state S0.flash) S0.noted O i (job ∷ drop (i + 1) jobs)
      each_here = subst (AreLoadable (state S0.flash) S0.noted O i) here h.each

      free_here : AreFreeFrom (registers S.flash) (die_of shape job.slot.0)
      free_here = All-head (λ (j : Job). AreFreeFrom (registers S.flash) (die_of shape j.slot.0)) job
          (drop (i + 1) jobs)
          (subst (All (λ (j : Job). AreFreeFrom (registers S.flash) (die_of shape j.slot.0))) here h.free)

      dies_here : InOrderOfDies shape (job ∷ drop (i + 1) jobs)
      dies_here = subst (InOrderOfDies shape) here h.dies

      abbrev its_load : Load
      its_load = load_of S0.noted job (bytes_due O i)

      now : registers S'.flash ≡ with_load shape (registers S.flash) its_load
      now = load.loaded
          ∙ ap (λ (s : FlashState). with_load s.shape (registers S.flash) (load_of S.noted job bytes)) h.keeps.same
          ∙ ap (λ (T : StoreState F). with_load shape (registers S.flash) (load_of T.noted job bytes)) h.keeps.stays
          ∙ ap (λ bs. with_load shape (registers S.flash) (load_of S0.noted job bs)) its

      pub loaded_more : LoadedTo S' (i + 1)
      loaded_more = record {
        each = each_here.5;
        dies = pairs_tail (λ (a b : Job). die_of shape a.slot.0 < die_of shape b.slot.0) job
            (drop (i + 1) jobs) dies_here;
        loaded =
            let rest = loads_for S0.noted O (i + 1) (drop (i + 1) jobs) in
            ap (λ loads. loads ++ rest)
            (ap loads_in now ∙ more shape (registers S.flash) its_load (omega (arith, h.count, each_here.2)) free_here)
            ∙ append_assoc (loads_in (registers S.flash)) (its_load ∷ []) rest
            ∙ ap (λ js. loads_in (registers S.flash) ++ loads_for S0.noted O i js) (sym here) ∙ h.loaded;
        free = all_from (λ (j : Job). AreFreeFrom (registers S'.flash) (die_of shape j.slot.0))
            (drop (i + 1) jobs) (λ j inside.
            let less = pairs_head (λ (a b : Job). die_of shape a.slot.0 < die_of shape b.slot.0) job (drop (i + 1) jobs)
            j dies_here inside in
            subst (λ rs. AreFreeFrom rs (die_of shape j.slot.0)) (sym now)
            (λ k low. behind shape (registers S.flash) its_load free_here k (omega (arith, less, low))));
        count = ap length now ∙ length-set (registers S.flash) (die_of shape job.slot.0) _ ∙ h.count;
        keeps = record {
          same = load.keeps.same ∙ h.keeps.same;
          stays = load.keeps.stays ∙ ap (λ (T : StoreState F). record T { flash = S'.flash }) h.keeps.stays;
        };
      }

  pub loaded_all : (C S : StoreState F) (i : ℕ) → ClearsRegisters state registers C S0 → LoadedTo S i →
      length jobs ≤ i → LoadsEach state registers C S O jobs
  loaded_all C S i clear h past = record {
    loaded = sym (append-nil (loads_in (registers S.flash)))
        ∙ ap (λ js. loads_in (registers S.flash) ++ loads_for S0.noted O i js) (sym (drop_all i jobs past)) ∙ h.loaded
        ∙ ap (λ (T : StoreState F). loads_for T.noted O 0 jobs) clear.keeps.stays;
    keeps = record {
      same = h.keeps.same ∙ clear.keeps.same;
      stays = h.keeps.stays ∙ ap (λ (T : StoreState F). record T { flash = S.flash }) clear.keeps.stays;
    };
  }

-- this many of the records are noted
pub record NotedTo {F : Type 0} (S0 S : StoreState F) (O0 O : OpenTransactionsState) (jobs : List Job)
    (i : ℕ) : Type 0 where
  pub can : CanNoteEach S.noted S.table O i (drop i jobs)
  pub noted : noted_each S.noted (drop i jobs) ≡ noted_each S0.noted jobs
  pub table : used_each S.table (drop i jobs) ≡ used_each S0.table jobs
  pub opens : nexts_noted i (drop i jobs) O ≡ nexts_noted 0 jobs O0
  pub stays : S ≡ record S0 { noted = S.noted; table = S.table }

pub noted_none : {F : Type 0} (S : StoreState F) (O : OpenTransactionsState) (jobs : List Job) →
    CanNoteEach S.noted S.table O 0 jobs → NotedTo S S O O jobs 0
noted_none S O jobs can = record { can = can; noted = refl; table = refl; opens = refl; stays = refl }

pub noted_here : {F : Type 0} (S0 S : StoreState F) (O0 O : OpenTransactionsState) (jobs : List Job) (i : ℕ) →
    NotedTo S0 S O0 O jobs i → i < length jobs →
    CanNoteEach S.noted S.table O i (get_or jobs i no_job ∷ drop (i + 1) jobs)
noted_here S0 S O0 O jobs i h within = subst (CanNoteEach S.noted S.table O i) (drop_more jobs i no_job within) h.can

pub noted_more : {F : Type 0} (S0 S S' : StoreState F) (O0 O O' : OpenTransactionsState) (jobs : List Job) (i : ℕ)
    (job : Job) → NotedTo S0 S O0 O jobs i →
    drop i jobs ≡ job ∷ drop (i + 1) jobs →
    S' ≡ record S { noted = programmed S.noted job.slot.0 job.rec; table = with_slot S.table job.slot.0 } →
    O' ≡ with_transaction O i (with_next (transaction_at O i)) → NotedTo S0 S' O0 O' jobs (i + 1)
noted_more {F} S0 S S' O0 O O' jobs i job h here stored opens =
    let rest = drop (i + 1) jobs in
    let n = programmed S.noted job.slot.0 job.rec in
    let t = with_slot S.table job.slot.0 in
    let can : CanNoteEach S.noted S.table O i (job ∷ rest) = subst (CanNoteEach S.noted S.table O i) here h.can in
    let noted : S'.noted ≡ n = ap (λ (T : StoreState F). T.noted) stored in
    let table : S'.table ≡ t = ap (λ (T : StoreState F). T.table) stored in
    record {
      can = subst (λ (m : IndexState). CanNoteEach m S'.table O' (i + 1) rest) (sym noted)
          (subst (λ (u : BlocksState). CanNoteEach n u O' (i + 1) rest) (sym table)
          (subst (λ (o : OpenTransactionsState). CanNoteEach n t o (i + 1) rest) (sym opens) can.3));
      noted = ap (λ (m : IndexState). noted_each m rest) noted ∙ ap (noted_each S.noted) (sym here) ∙ h.noted;
      table = ap (λ (u : BlocksState). used_each u rest) table ∙ ap (used_each S.table) (sym here) ∙ h.table;
      opens = ap (nexts_noted (i + 1) rest) opens ∙ ap (λ js. nexts_noted i js O) (sym here) ∙ h.opens;
      stays = stored ∙ ap (λ (T : StoreState F). record T { noted = n; table = t }) h.stays
          ∙ ap₂ (λ (m : IndexState) (u : BlocksState). record S0 { noted = m; table = u }) (sym noted) (sym table);
    }

pub noted_all : {F : Type 0} (S0 S : StoreState F) (O0 O : OpenTransactionsState) (jobs : List Job) (i : ℕ) →
    NotedTo S0 S O0 O jobs i → length jobs ≤ i →
    (S ≡ record S0 { noted = noted_each S0.noted jobs; table = used_each S0.table jobs }) × (O ≡ nexts_noted 0 jobs O0)
noted_all {F} S0 S O0 O jobs i h past =
    let none = drop_all i jobs past in
    let noted : S.noted ≡ noted_each S0.noted jobs = ap (noted_each S.noted) (sym none) ∙ h.noted in
    let table : S.table ≡ used_each S0.table jobs = ap (used_each S.table) (sym none) ∙ h.table in (
      h.stays ∙ ap₂ (λ (m : IndexState) (u : BlocksState). record S0 { noted = m; table = u }) noted table,
      ap (λ js. nexts_noted i js O) (sym none) ∙ h.opens,
    )
