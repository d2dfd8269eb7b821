-- The fire of several programs as a call: what it asks for, and what it leaves where it is done and where it is broken.
use Rattle.tx_engine.proofs.Common.{◌≡◌, ◌≢◌, ℕ, suc, ◌+◌, ◌<◌, List, [], ◌∷◌, ◌++◌, length, drop, replicate, All, AllPairs, Option, Result, Ok, Err, refl, sym, ap, ap₂, ◌∙◌, subst, arith, flat_map, drop_more, get_or-map, length-map, All-nil, All-cons, All-head, All-tail, All-contains, all_from, pairs_cons, pairs_head, pairs_tail, slots_of, Protocol, Shape, Broken, Outcome, FlashState, Does, CanDo, Load, die_of, fire, left_each, moment_of, PageWrite, Config, IsSoundImage, array_in, found_in, IndexState, current_of, BlocksState, array_known, ArrayStays, ImageIsSound, NotingKeeps, MayTakeEach, Entry, Pages, AreJobsDue, CanNoteEach, CanWriteAll, DroppedAll, InOrderOfDies, IsJobDue, WrittenAll, loads_for, nexts_noted, noted_each, taken_writes, takes_each, used_each, OpenTransactionsState, TransactionState, entries_of, no_transaction, StoreState, Job}
use Rattle.std.proofs.Common.{take}
use Rattle.std.proofs.lemmas.List.{take-append-drop}
use Rattle.flash_model.specs.declared.outcome.Outcome.TheVariants as outcome
use Rattle.flash_model.specs.Calls.{Operates}
use Rattle.flash_model.specs.Operations.{CanLoad}
use Rattle.flash_model.proofs.FireLemmas.{die_within}
use Rattle.flash_model.proofs.MoveLemmas.{FlashMoves-fires, same_done, same_or_broken}
use Rattle.record_list.specs.WrittenChanges.{WrittenPartialWriteLaw, WrittenCompletingWriteLaw}
use Rattle.judged_records.proofs.OfLaws.ImageLaws.{image_completing_law, image_partial_law}
use Rattle.collector.specs.declared.unsure.Unsure.TheVariants as unsure
use Rattle.array_machine.specs.Step.{IsAtLast}
use Rattle.tx_engine.specs.BatchCalls.{AreLoadable, CanLoadAll, FiresStored}
use Rattle.tx_engine.specs.BatchCalls.{LoadsEach}
use Rattle.tx_engine.specs.Batches.{MayLeaveEach}
use Rattle.tx_engine.proofs.OfDevice.HeldRecords.{held_between}
use Rattle.tx_engine.proofs.OfDevice.Kept.{BlocksInvariant, from_stands, to_stands}
use Rattle.tx_engine.proofs.batches.write_all.Answers.BatchLeaves.{SomeLeft, left_array, left_held, left_mentions, left_sound, some_left, take_fewer}
use Rattle.tx_engine.proofs.OfStepAll.LoadLeft.{HasLaws, job_can, job_named, job_page, job_spelled}
use Rattle.tx_engine.proofs.batches.write_all.Answers.Wholes.{AllWhole, all_whole, entries_for}

-- the transactions to which the programs belong are the first ones
pub entries_first : (O : OpenTransactionsState) (jobs : List Job) (i : ℕ) → (n : IndexState) (t : BlocksState) →
    AreJobsDue n t O i jobs →
    entries_for O i jobs ≡ take (length jobs) (drop i (entries_of O))
entries_first O [] i n t due = refl
entries_first O (job ∷ jobs) i n t due =
    let inside : i < length (entries_of O) = subst (λ len. i < len)
    (sym (length-map O.all (λ (o : TransactionState). o.entry))) due.0.due.exists in
    ap₂ (λ (e : Entry) es. e ∷ es) (sym (get_or-map (λ (o : TransactionState). o.entry) O.all i no_transaction
    no_transaction.entry due.0.due.exists))
    (entries_first O jobs (i + 1) n t due.1)
    ∙ ap (take (length (job ∷ jobs))) (sym (drop_more (entries_of O) i no_transaction.entry inside))

module _ (s : FlashState) (n : IndexState) (t : BlocksState) (O : OpenTransactionsState)
    (laws : HasLaws n.config.protocol) (k : BlocksInvariant s n t unsure.Nothing O)
    (size : O.page_bytes ≡ n.config.page_bytes) where
  slot_within : (i : ℕ) (job : Job) → IsJobDue n t O i job → job.slot.0 < slots_of s.shape
  slot_within i job h = omega (arith, h.first.free.within, ap slots_of k.matches.blocks)

  pub jobs_loadable : (jobs : List Job) (i : ℕ) → AreJobsDue n t O i jobs → AreLoadable s n O i jobs
  jobs_loadable [] i due = tt
  jobs_loadable (job ∷ jobs) i due = (
    record { exists = due.0.due.exists; within = (job_named s n t O i job laws k size due.0).within },
    slot_within i job due.0,
    die_within s.shape job.slot.0 k.matches.flash.bounds (slot_within i job due.0),
    job_page s n t O i job laws k size due.0 ∙ ap (λ (sh : Shape). sh.page_bytes) (sym k.matches.shape),
    job_spelled s n t O i job laws k size due.0,
    jobs_loadable jobs (i + 1) due.1,
  )

  loads_can : (jobs : List Job) (i : ℕ) → AreJobsDue n t O i jobs → All (CanLoad s.shape s.image) (loads_for n O i jobs)
  loads_can [] i due = All-nil (CanLoad s.shape s.image)
  loads_can (job ∷ jobs) i due =
      All-cons (CanLoad s.shape s.image) _ (loads_for n O (i + 1) jobs) (job_can s n t O i job laws k size due.0)
      (loads_can jobs (i + 1) due.1)

  behind : (die : ℕ) (jobs : List Job) (i : ℕ) → All (λ (x : Job). die < die_of s.shape x.slot.0) jobs →
      All (λ (l : Load). die < die_of s.shape l.at) (loads_for n O i jobs)
  behind die [] i h = All-nil (λ (l : Load). die < die_of s.shape l.at)
  behind die (job ∷ jobs) i h =
      All-cons (λ (l : Load). die < die_of s.shape l.at) _ (loads_for n O (i + 1) jobs)
      (All-head (λ (x : Job). die < die_of s.shape x.slot.0) job jobs h)
      (behind die jobs (i + 1) (All-tail (λ (x : Job). die < die_of s.shape x.slot.0) job jobs h))

  loads_apart : (jobs : List Job) (i : ℕ) → InOrderOfDies s.shape jobs →
      AllPairs (λ (a b : Load). die_of s.shape a.at ≢ die_of s.shape b.at) (loads_for n O i jobs)
  loads_apart [] i dies = λ a b d less inside. absurd (omega arith)
  loads_apart (job ∷ jobs) i dies =
      let later = behind (die_of s.shape job.slot.0) jobs (i + 1)
      (all_from (λ (x : Job). die_of s.shape job.slot.0 < die_of s.shape x.slot.0) jobs
      (λ x inside. pairs_head (λ (a b : Job). die_of s.shape a.slot.0 < die_of s.shape b.slot.0) job jobs x
      dies inside)) in
      pairs_cons (λ (a b : Load). die_of s.shape a.at ≢ die_of s.shape b.at) _ (loads_for n O (i + 1) jobs)
      (λ l inside same. let less = All-contains (λ (l : Load). die_of s.shape job.slot.0 < die_of s.shape l.at)
      (loads_for n O (i + 1) jobs) l later inside in
      absurd (omega (arith, less, same)))
      (loads_apart jobs (i + 1) (pairs_tail (λ (a b : Job). die_of s.shape a.slot.0 < die_of s.shape b.slot.0)
      job jobs dies))

  pub can_fire : (jobs : List Job) → AreJobsDue n t O 0 jobs → InOrderOfDies s.shape jobs →
      CanDo s.shape s.image (fire (loads_for n O 0 jobs))
  can_fire jobs due dies = (loads_can jobs 0 due, loads_apart jobs 0 dies)

  loads_long : (jobs : List Job) (i : ℕ) → length (loads_for n O i jobs) ≡ length jobs
  loads_long [] i = refl
  loads_long (job ∷ jobs) i = ap suc (loads_long jobs (i + 1))

  module _ (s' : FlashState) (jobs : List Job) (due : AreJobsDue n t O 0 jobs) (dies : InOrderOfDies s.shape jobs) where
    pub fire_done : {F : Type 0} (f : F) (x : Unit {0}) → Operates s s' (fire (loads_for n O 0 jobs)) (Ok x) →
        AllWhole f s s' n t O 0 jobs
    fire_done f x done =
        all_whole f jobs s s' n t O 0 laws k size due dies done.carries.shape
        (done.done.image ∙ ap (λ count. left_each s.image (loads_for n O 0 jobs) (replicate count outcome.All))
        (loads_long jobs 0))

    pub fire_torn : {F : Type 0} (f : F) (b : Broken) → Operates s s' (fire (loads_for n O 0 jobs)) (Err b) →
        SomeLeft f s s' n t O 0 jobs
    fire_torn f b torn =
        some_left f jobs torn.torn.left.0 s s' n t O 0 laws k size due dies (torn.torn.left.1 ∙ loads_long jobs 0)
        torn.carries.shape torn.torn.left.2

    pub fire_does : (x : Unit {0}) → Operates s s' (fire (loads_for n O 0 jobs)) (Ok x) →
        Does s.shape (moment_of s) (fire (loads_for n O 0 jobs) ∷ []) (moment_of s')
    fire_does x done = (
      can_fire jobs due dies,
      same_done s s' (fire (loads_for n O 0 jobs)) x done,
    )

-- what holds under the rule of a protocol
pub laws_of : (p : Protocol) → ImageIsSound p → NotingKeeps p → ArrayStays p → WrittenPartialWriteLaw p →
    WrittenCompletingWriteLaw p → HasLaws p
laws_of p images notes arrays partial completing = record {
  images = images;
  notes = notes;
  arrays = arrays;
  partial = image_partial_law p partial;
  completing = image_completing_law p completing;
}

module _ {F : Type 0} (state : F → FlashState) (p : Protocol) (S S' : StoreState F) (O : OpenTransactionsState)
    (jobs : List Job) (laws : HasLaws p)
    (can : CanWriteAll state p S O jobs) where
  its : HasLaws S.noted.config.protocol
  its = subst HasLaws (sym can.ready.rule) laws

  pub stands_now : BlocksInvariant (state S.flash) S.noted S.table unsure.Nothing O
  stands_now = subst (λ u. BlocksInvariant (state S.flash) S.noted S.table u O) can.ready.sure
      (from_stands state S O can.ready.stands)

  pub can_load_all : CanLoadAll state S O jobs
  can_load_all = record {
    each = jobs_loadable (state S.flash) S.noted S.table O its stands_now can.size jobs 0 can.due;
    dies = can.dies;
  }

  pub can_fire_all : CanDo (state S.flash).shape (state S.flash).image (fire (loads_for S.noted O 0 jobs))
  can_fire_all = can_fire (state S.flash) S.noted S.table O its stands_now can.size jobs can.due can.dies

  -- what is left, whatever each of the programs leaves
  module _ (hows : List Outcome) (long : length hows ≡ length (loads_for S.noted O 0 jobs)) where
    abbrev left_by : FlashState
    left_by = record (state S.flash) { image = left_each (state S.flash).image (loads_for S.noted O 0 jobs) hows }

    some_by : SomeLeft S.flash (state S.flash) left_by S.noted S.table O 0 jobs
    some_by =
        some_left S.flash jobs hows (state S.flash) left_by S.noted S.table O 0 its stands_now can.size can.due can.dies
        (long ∙ loads_long (state S.flash) S.noted S.table O its stands_now can.size jobs 0) refl refl

    sound_by : IsSoundImage S.noted.config.protocol S.noted.config.logical (state S.flash).shape
        (left_each (state S.flash).image (loads_for S.noted O 0 jobs) hows)
    sound_by = left_sound S.flash (state S.flash) left_by S.noted S.table O 0 jobs its some_by

    array_by : MayTakeEach (array_known S.noted (state S.flash).image) IsAtLast (entries_of O)
        (array_in S.noted.config.protocol S.noted.config.logical
        (left_each (state S.flash).image (loads_for S.noted O 0 jobs) hows))
    array_by =
        let all : take (length jobs) (entries_of O) ++ drop (length jobs) (entries_of O) ≡ entries_of O =
        take-append-drop (length jobs) (entries_of O) in
        let pages : Pages = array_known S.noted (state S.flash).image in
        let after_it : Pages = array_in S.noted.config.protocol S.noted.config.logical left_by.image in
        subst (λ es. MayTakeEach pages IsAtLast es after_it) all
        (take_fewer (take (length jobs) (entries_of O)) (drop (length jobs) (entries_of O)) pages after_it IsAtLast
        (subst (λ es. MayTakeEach pages IsAtLast es after_it) (entries_first O jobs 0 S.noted S.table can.due)
        (left_array S.flash (state S.flash) left_by S.noted S.table O 0 jobs its some_by)))

  may_leave : MayLeaveEach S.noted.config.protocol S.noted.config.logical (state S.flash).shape (state S.flash).image
      (loads_for S.noted O 0 jobs) (array_known S.noted (state S.flash).image) (entries_of O)
  may_leave = record { sound = sound_by; array = array_by }

  -- the fire of what was loaded, as the store has it
  module _ (registers : F → List (Option Load)) (C : StoreState F) (load : LoadsEach state registers S C O jobs)
      (r : Result (Unit {0}) Broken)
      (call : FiresStored state registers C S' r) where
    pub fired : (q : Result (Unit {0}) Broken) → r ≡ q →
        Operates (state S.flash) (state S'.flash) (fire (loads_for S.noted O 0 jobs)) q
    fired q is =
        subst (λ x. Operates (state S.flash) (state S'.flash) (fire (loads_for S.noted O 0 jobs)) x) is
        (subst (λ (s : FlashState). Operates s (state S'.flash) (fire (loads_for S.noted O 0 jobs)) r) load.keeps.same
        (subst (λ loads. Operates (state C.flash) (state S'.flash) (fire loads) r) load.loaded call.fires))

    pub same_tables : S' ≡ record S { flash = S'.flash }
    same_tables = call.stays ∙ ap (λ (T : StoreState F). record T { flash = S'.flash }) load.keeps.stays

  -- It was done
  module _ (x : Unit {0}) (done : Operates (state S.flash) (state S'.flash)
      (fire (loads_for S.noted O 0 jobs)) (Ok x)) where
    whole : AllWhole S.flash (state S.flash) (state S'.flash) S.noted S.table O 0 jobs
    whole = fire_done (state S.flash) S.noted S.table O its stands_now can.size (state S'.flash) jobs can.due can.dies
        S.flash x done

    pub can_note_all : CanNoteEach S.noted S.table O 0 jobs
    can_note_all = whole.can

    first_ones : entries_for O 0 jobs ≡ take (length jobs) (entries_of O)
    first_ones = entries_first O jobs 0 S.noted S.table can.due

    abbrev then : StoreState F
    then = record {
      flash = S'.flash;
      noted = noted_each S.noted jobs;
      table = used_each S.table jobs;
      unsure = unsure.Nothing;
    }

    pub then_is : (T : StoreState F) → S' ≡ record S { flash = S'.flash } →
        T ≡ record S' { noted = noted_each S'.noted jobs; table = used_each S'.table jobs } → T ≡ then
    then_is T same is =
        is ∙ ap (λ (X : StoreState F). record X { noted = noted_each X.noted jobs; table = used_each X.table jobs })
        same
        ∙ ap (λ u. record then { unsure = u }) can.ready.sure

    pub written_all : (T : StoreState F) (O' : OpenTransactionsState) → T ≡ then → O' ≡ nexts_noted 0 jobs O →
        WrittenAll state S T O O' jobs
    written_all T O' is opens =
        subst (λ (X : StoreState F). WrittenAll state S X O O' jobs) (sym is)
        (subst (λ (X : OpenTransactionsState). WrittenAll state S then O X jobs) (sym opens) (record {
          stands = to_stands state then (nexts_noted 0 jobs O) whole.kept;
          noted = refl;
          table = refl;
          sure = refl;
          opens = refl;
          exits = record {
            tables = record {
              config = whole.tables.config;
              versions = whole.tables.versions;
              mentions = whole.tables.mentions;
              names = whole.tables.names;
              kept = refl;
            };
            moves = FlashMoves-fires (state S.flash) (state S'.flash) (loads_for S.noted O 0 jobs) (Ok x) can_fire_all
                done;
            carries = done.carries;
            held = held_between S.noted.config.protocol S.noted.config.logical (state S.flash).image
                (state S'.flash).image (found_in S.noted.notes) (found_in then.noted.notes)
                (its.images.records (state S.flash) S.noted S.table unsure.Nothing stands_now.matches tt refl)
                (its.images.records (state S'.flash) then.noted then.table unsure.Nothing whole.kept.matches tt
                (ap (λ (c : Config). c.protocol) whole.tables.config)) whole.held;
          };
          rises = record {
            rises = subst (λ es. All (λ w. current_of S.noted w.page < current_of (noted_each S.noted jobs) w.page)
                (flat_map taken_writes es)) first_ones
                whole.rises.rises;
            stays = λ page low others. whole.rises.stays page low
                (subst (λ es. All (λ (w : PageWrite). w.page ≢ page) (flat_map taken_writes es))
                (sym first_ones) others);
          };
          pages = whole.pages ∙ ap (takes_each (array_known S.noted (state S.flash).image)) first_ones;
          does = fire_does (state S.flash) S.noted S.table O its stands_now can.size (state S'.flash) jobs can.due
              can.dies x done;
          reads = done.reads;
          low = subst (λ es. All (λ (w : PageWrite). w.page < S.noted.config.logical) (flat_map taken_writes es))
              first_ones whole.low;
          leaves = may_leave;
        }))

  -- It was broken
  pub dropped_all : (b : Broken) → Operates (state S.flash) (state S'.flash)
      (fire (loads_for S.noted O 0 jobs)) (Err b) →
      S' ≡ record S { flash = S'.flash } → DroppedAll state S S' O jobs
  dropped_all b torn same =
      let left = fire_torn (state S.flash) S.noted S.table O its stands_now can.size (state S'.flash) jobs can.due
      can.dies S.flash b torn in
      let all : take (length jobs) (entries_of O) ++ drop (length jobs) (entries_of O) ≡ entries_of O =
      take-append-drop (length jobs) (entries_of O) in
      let pages : Pages = array_known S.noted (state S.flash).image in
      let after_it : Pages = array_in S.noted.config.protocol S.noted.config.logical (state S'.flash).image in
      record {
        sound = left_sound S.flash (state S.flash) (state S'.flash) S.noted S.table O 0 jobs its left;
        array = subst (λ es. MayTakeEach pages IsAtLast es after_it) all
            (take_fewer (take (length jobs) (entries_of O)) (drop (length jobs) (entries_of O)) pages after_it IsAtLast
            (subst (λ es. MayTakeEach pages IsAtLast es after_it) (entries_first O jobs 0 S.noted S.table can.due)
            (left_array S.flash (state S.flash) (state S'.flash) S.noted S.table O 0 jobs its left)));
        mentions = left_mentions S.flash (state S.flash) (state S'.flash) S.noted S.table O 0 jobs its left;
        held = left_held S.flash (state S.flash) (state S'.flash) S.noted S.table O 0 jobs its left stands_now;
        can = can_fire_all;
        torn = same_or_broken (state S.flash) (state S'.flash) (fire (loads_for S.noted O 0 jobs)) b torn;
        moves = FlashMoves-fires (state S.flash) (state S'.flash) (loads_for S.noted O 0 jobs) (Err b) can_fire_all
            torn;
        carries = torn.carries;
        stays = same;
        leaves = may_leave;
      }
