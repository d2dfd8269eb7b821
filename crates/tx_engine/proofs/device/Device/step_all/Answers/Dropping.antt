-- A device that met a fault where several transactions went on: what its flash is left with.
use Rattle.tx_engine.proofs.Common.{◌≡◌, ◌≢◌, ℕ, ◌<◌, true, false, List, [], length, map, Ok, Err, refl, sym, ap, ap₂, ◌∙◌, subst, inl, inr, arith, range_with_len, Config, Protocol, Shape, Broken, Contents, FlashState, Load, Moment, fire, moment_of, Carries-then, FlashMoves-then, mention, IsSoundImage, array_in, records_in, IndexState, mention_of, BlocksState, MayTakeEach, left_each, ArrayState, Entry, idle, DroppedAll, chosen_now, loads_for, DropsDevice, chosen_from, chosen_of, jobs_of, AdvancesTo, SettlesDevice, ExitsTables, MentionsAtMost, is_there, OpenTransactionsState, TransactionState, entries_of, namings_of, transaction_at, settlement_of, with_settlement, DeviceState, Stands, StepsAs, settled, settled_entry, StoreState, device_in, length-map}
use Rattle.flash_model.specs.Operations.{BreaksIn}
use Rattle.flash_model.proofs.MoveLemmas.{FlashMovesTogether-then}
use Rattle.array_machine.specs.Batches.{CutLeavesEach}
use Rattle.array_machine.specs.Step.{IsAtLast}
use Rattle.tx_engine.specs.Always.{CutsLeave, DevicesStand}
use Rattle.tx_engine.specs.Batches.{ChosenMayLeave, MayLeaveEach, loads_of, transactions_of}
use Rattle.tx_engine.proofs.OfSettle.SettleExits.{failed_machine}
use Rattle.array_machine.specs.declared.answers.StepError.TheVariants as failed
use Rattle.tx_engine.proofs.OfAbort.Aborting.{entry_settled}
use Rattle.open_table.proofs.OfTransactions.OpenList.{entry_first, first_of_own}
use Rattle.tx_engine.proofs.OfDevice.ExitsThen.{images_then, named_before}
use Rattle.tx_engine.proofs.OfDevice.Kept.{from_stands}
use Rattle.tx_engine.proofs.OfStep.StepExits.{step_settled, step_since}
use Rattle.tx_engine.proofs.OfStep.StepWrites.{works_then}
use Rattle.tx_engine.proofs.OfStepAll.Moving.{none_chosen}
use Rattle.tx_engine.proofs.device.Device.step_all.Answers.KnownChoice.{bare, jobs_alike, leaves_each, loads_alike, loads_chosen, transactions_alike, take_settled}

-- the tables of a settled device are those that were known
module _ {F : Type 0} (state : F → FlashState) (S S1 : StoreState F) (O O1 : OpenTransactionsState) (u : Unit {0})
    (st : SettlesDevice state S S1 O O1 (Ok u)) where
  abbrev old : DeviceState F
  old = device_in state S O

  abbrev known : ArrayState
  known = settled (is_there state old) old.machine

  abbrev opened : List TransactionState
  opened = transactions_of (record (with_settlement state old) { machine = known })

  alike : map bare opened ≡ map bare O1.all
  alike =
      ap (λ (s : ArrayState). map bare (transactions_of (record (with_settlement state old) { machine = s })))
      (sym st.settles.machine)
      ∙ transactions_alike O1.all O.all st.names

  abbrev dies_of : BlocksState → List ℕ
  dies_of t = range_with_len 0 t.shape.dies

  pub known_jobs : jobs_of (settlement_of state old).noted (chosen_of state old) ≡ jobs_of S1.noted (chosen_now S1 O1)
  known_jobs =
      ap₂ (λ (n : IndexState) (t : BlocksState). jobs_of n (chosen_from n t (dies_of t) opened)) (sym st.tables.0)
      (sym st.tables.1)
      ∙ jobs_alike S1.noted S1.table (dies_of S1.table) opened O1.all alike

  pub known_loads : O1.page_bytes ≡ S1.noted.config.page_bytes →
      loads_of (settlement_of state old).noted (chosen_of state old)
      ≡ loads_for S1.noted O1 0 (jobs_of S1.noted (chosen_now S1 O1))
  known_loads size =
      ap₂ (λ (n : IndexState) (t : BlocksState). loads_of n (chosen_from n t (dies_of t) opened)) (sym st.tables.0)
      (sym st.tables.1)
      ∙ loads_alike S1.noted S1.table (dies_of S1.table) opened O1.all alike
      ∙ sym (loads_chosen S1.noted S1.table O1 size (dies_of S1.table) 0)

  -- so is what their fire may leave
  pub known_leaves : O1.page_bytes ≡ S1.noted.config.page_bytes →
      MayLeaveEach S1.noted.config.protocol S1.noted.config.logical (state S1.flash).shape (state S1.flash).image
      (loads_for S1.noted O1 0 (jobs_of S1.noted (chosen_now S1 O1))) (device_in state S1 O1).machine.pages
      (entries_of O1) → ChosenMayLeave state old
  known_leaves size leaves =
      let there = is_there state old in
      let loads = loads_of (settlement_of state old).noted (chosen_of state old) in
      let at_begin : MayLeaveEach S.noted.config.protocol S.noted.config.logical (state S.flash).shape
      (state S.flash).image loads known.pages known.entries =
      subst (λ (ls : List Load). MayLeaveEach S.noted.config.protocol S.noted.config.logical (state S.flash).shape
      (state S.flash).image ls known.pages known.entries) (sym (known_loads size))
      (subst (λ (c : Config). MayLeaveEach c.protocol c.logical (state S.flash).shape (state S.flash).image
      (loads_for S1.noted O1 0 (jobs_of S1.noted (chosen_now S1 O1))) known.pages known.entries) st.exits.tables.config
      (subst (λ (sh : Shape). MayLeaveEach S1.noted.config.protocol S1.noted.config.logical sh (state S.flash).image
      (loads_for S1.noted O1 0 (jobs_of S1.noted (chosen_now S1 O1))) known.pages known.entries)
      st.exits.carries.shape
      (subst (λ (m : Moment). MayLeaveEach S1.noted.config.protocol S1.noted.config.logical (state S1.flash).shape
      m.image (loads_for S1.noted O1 0 (jobs_of S1.noted (chosen_now S1 O1))) known.pages known.entries) st.moment
      (subst (λ (s : ArrayState). MayLeaveEach S1.noted.config.protocol S1.noted.config.logical (state S1.flash).shape
      (state S1.flash).image (loads_for S1.noted O1 0 (jobs_of S1.noted (chosen_now S1 O1))) s.pages s.entries)
      st.settles.machine leaves)))) in
      record {
        sound = at_begin.sound;
        array = λ hows long. take_settled there old.machine.entries known.pages
            (array_in S.noted.config.protocol S.noted.config.logical (left_each (state S.flash).image loads hows))
            (at_begin.array hows long);
      }

  -- where none was chosen then, none is now
  pub none_now : chosen_of state old ≡ [] → chosen_now S1 O1 ≡ []
  none_now none = none_chosen S1.noted (chosen_now S1 O1)
      (sym known_jobs ∙ ap (jobs_of (settlement_of state old).noted) none)

-- The place could not be read
pub drops_unsettled : {F : Type 0} (state : F → FlashState) (p : Protocol) (S S1 : StoreState F)
    (O O1 : OpenTransactionsState) (b : Broken) → DevicesStand state p →
    CutsLeave state p → S.noted.config.protocol ≡ p → SettlesDevice state S S1 O O1 (Err b) →
    DropsDevice state (device_in state S O) (record (device_in state S1 O1) { dropped = true })
drops_unsettled {F} state p S S1 O O1 b devices cuts rule st =
    let config : S1.noted.config ≡ S.noted.config = ap (λ (T : StoreState F). T.noted.config) st.failed.0 in
    let rule1 : S1.noted.config.protocol ≡ p = ap (λ (c : Config). c.protocol) config ∙ rule in
    let old = device_in state S O in
    let mid = device_in state S1 O1 in
    let image = (state S1.flash).image in
    record {
      dropped = refl;
      config = config;
      sound = subst (λ (c : Config). IsSoundImage c.protocol c.logical (state S1.flash).shape image) config
          (subst (λ q. IsSoundImage q S1.noted.config.logical (state S1.flash).shape image) (sym rule1)
          (devices.sound mid st.stands rule1));
      array = subst (λ (c : Config). CutLeavesEach old.machine (idle (array_in c.protocol c.logical image))) config
          (subst (λ q. CutLeavesEach old.machine (idle (array_in q S1.noted.config.logical image))) (sym rule1)
          (leaves_each (λ e. ⊥) old.machine (idle (array_in p S1.noted.config.logical image)) (λ e none. absurd none)
          (cuts.settled old mid false st.stands rule1
          (inl (failed_machine state S S1 O O1 st.failed.0 st.failed.1 st.moment)))));
      mentions = subst (λ (n : IndexState). MentionsAtMost n (namings_of O) image)
          (ap (λ (T : StoreState F). T.noted) st.failed.0)
          (subst (λ xs. MentionsAtMost S1.noted xs image) (ap namings_of st.failed.1)
          (devices.mentions mid st.stands rule1));
      held = st.exits.held;
      moves = inl st.exits.moves;
      carries = st.exits.carries;
      torn = λ some. inl st.moment;
      leaves = λ some. inl st.moment;
      alone = λ none. inl st.moment;
    }

-- what is mentioned at most afterwards was mentioned at most, or named, before
pub mentions_back : {F : Type 0} (a b : DeviceState F) (image : List Contents) → a.config ≡ a.noted.config →
    b.noted.config ≡ a.noted.config → ExitsTables a b →
    MentionsAtMost b.noted b.namings image → MentionsAtMost a.noted a.namings image
mentions_back a b image own config tables most page low =
    let there : page < b.noted.config.logical = subst (λ (c : Config). page < c.logical) (sym config) low in
    let same = ap (λ (c : Config). mention (records_in c.protocol image) page) config in
    elim (most page there) [
      | inr named ↦ inr (
        named.0,
        named_before a.namings b.namings page named.0 tables.names named.1,
        omega (arith, named.2, same),
      )
      | inl fewer ↦ elim (tables.mentions page low) [
        | inl is ↦ inl (omega (arith, fewer, is, same))
        | inr rose ↦ inr (mention_of b.noted page, rose.1, omega (arith, fewer, same))
      ]
    ]

-- The fire was broken
pub drops_fired : {F : Type 0} (state : F → FlashState) (S S1 S2 : StoreState F) (O O1 O2 : OpenTransactionsState)
    (u : Unit {0}) (st : SettlesDevice state S S1 O O1 (Ok u)) →
    O1.page_bytes ≡ S1.noted.config.page_bytes → chosen_now S1 O1 ≢ [] →
    DroppedAll state S1 S2 O1 (jobs_of S1.noted (chosen_now S1 O1)) →
    DropsDevice state (device_in state S O) (record (device_in state S2 O2) { dropped = true })
drops_fired {F} state S S1 S2 O O1 O2 u st size chosen d =
    let config : S1.noted.config ≡ S.noted.config = st.exits.tables.config in
    let old = device_in state S O in
    let there = is_there state old in
    let image = (state S2.flash).image in
    record {
      dropped = refl;
      config = ap (λ (T : StoreState F). T.noted.config) d.stays ∙ config;
      sound = subst (λ (c : Config). IsSoundImage c.protocol c.logical (state S2.flash).shape image) config d.sound;
      array = (
        there,
        take_settled there old.machine.entries (settled there old.machine).pages
            (array_in S.noted.config.protocol S.noted.config.logical image)
            (subst (λ (c : Config). MayTakeEach (settled there old.machine).pages IsAtLast
            (settled there old.machine).entries
            (array_in c.protocol c.logical image)) config
            (subst (λ (s : ArrayState). MayTakeEach s.pages IsAtLast s.entries
            (array_in S1.noted.config.protocol S1.noted.config.logical image))
            st.settles.machine d.array)),
        refl,
      );
      mentions = mentions_back old (device_in state S1 O1) image refl config st.exits.tables d.mentions;
      held = images_then S.noted.config S1.noted.config (state S.flash).image (state S1.flash).image image config
          st.exits.held d.held;
      moves = FlashMovesTogether-then (state S.flash) (state S1.flash) (state S2.flash) true st.exits.carries.shape
          st.exits.moves d.moves;
      carries = Carries-then (state S.flash) (state S1.flash) (state S2.flash) true st.exits.carries d.carries;
      torn = λ some. elim d.torn [
        | inl same ↦ inl (same ∙ st.moment)
        | inr breaks ↦ inr (
            subst (λ (loads : List Load). BreaksIn (state S.flash).shape (moment_of (state S.flash)) (fire loads)
            (moment_of (state S2.flash)))
            (sym (known_loads state S S1 O O1 u st size))
            (subst (λ (sh : Shape). BreaksIn sh (moment_of (state S.flash))
            (fire (loads_for S1.noted O1 0 (jobs_of S1.noted (chosen_now S1 O1))))
            (moment_of (state S2.flash))) st.exits.carries.shape
            (subst (λ (m : Moment). BreaksIn (state S1.flash).shape m
            (fire (loads_for S1.noted O1 0 (jobs_of S1.noted (chosen_now S1 O1))))
            (moment_of (state S2.flash))) st.moment breaks)))
      ];
      leaves = λ some. inr (known_leaves state S S1 O O1 u st size d.leaves);
      alone = λ none. absurd (chosen (none_now state S S1 O O1 u st none));
    }

-- The step of the first transaction met a fault
pub drops_first : {F : Type 0} (state : F → FlashState) (p : Protocol) (S S1 S2 : StoreState F)
    (O O1 O2 : OpenTransactionsState) (u : Unit {0}) (b : Broken) →
    DevicesStand state p → CutsLeave state p → S.noted.config.protocol ≡ p → Stands state (device_in state S O) →
    (st : SettlesDevice state S S1 O O1 (Ok u)) → AdvancesTo state S1 S2 O1 O2 0 (Err b) → 0 < length O1.all →
    chosen_now S1 O1 ≡ [] →
    DropsDevice state (device_in state S O) (record (device_in state S2 O2) { dropped = true })
drops_first {F} state p S S1 S2 O O1 O2 u b devices cuts rule stands st adv any none =
    let old = device_in state S O in
    let mid = device_in state S1 O1 in
    let new = device_in state S2 O2 in
    let there = is_there state old in
    let image = (state S2.flash).image in
    let config : S2.noted.config ≡ S.noted.config = adv.exits.tables.config ∙ st.exits.tables.config in
    let rule2 : S2.noted.config.protocol ≡ p = ap (λ (c : Config). c.protocol) config ∙ rule in
    let was = from_stands state S O stands in
    let entries : (settled there old.machine).entries ≡ entries_of O1 =
    ap (λ (s : ArrayState). s.entries) (sym st.settles.machine) in
    let long : length (entries_of O1) ≡ length (entries_of O) = ap length (sym entries)
    ∙ length-map (entries_of O) (settled_entry there) in
    let mapped = length-map O1.all (λ (o : TransactionState). o.entry) in
    let mapped_old = length-map O.all (λ (o : TransactionState). o.entry) in
    let within : 0 < length O.all = omega (arith, long, mapped, mapped_old, any) in
    let tag = (transaction_at O 0).entry.tag in
    let found = entry_first tag O.all 0 (first_of_own O.all 0 was.tags within) in
    let at = entry_settled there O O1 0 (ap (λ (m : ArrayState). m.entries) st.settles.machine) within in
    let steps : StepsAs there old.machine new.machine tag (Err failed.Fault) =
    step_settled there old.machine mid.machine new.machine tag (transaction_at O 0).entry (transaction_at O1 0).entry
    (Err b) (Err failed.Fault) found
    st.settles.machine at.1 (ap (λ (e : Entry). e.tag) at.1) adv.advances (λ q is. cc) (λ is. refl) in
    record {
      dropped = refl;
      config = config;
      sound = subst (λ (c : Config). IsSoundImage c.protocol c.logical (state S2.flash).shape image) config
          (subst (λ q. IsSoundImage q S2.noted.config.logical (state S2.flash).shape image) (sym rule2)
          (devices.sound new adv.stands rule2));
      array = subst (λ (c : Config). CutLeavesEach old.machine (idle (array_in c.protocol c.logical image))) config
          (subst (λ q. CutLeavesEach old.machine (idle (array_in q S2.noted.config.logical image))) (sym rule2)
          (leaves_each (λ e. (e.tag ≡ tag) × IsAtLast e) old.machine (idle (array_in p S2.noted.config.logical image))
          (λ e h. h.1)
          (cuts.step old new there tag adv.stands rule2 steps)));
      mentions = mentions_back old mid image refl st.exits.tables.config st.exits.tables
          (mentions_back mid new image refl adv.exits.tables.config adv.exits.tables
          (devices.mentions new adv.stands rule2));
      held = images_then S.noted.config S1.noted.config (state S.flash).image (state S1.flash).image image
          st.exits.tables.config st.exits.held adv.exits.held;
      moves = inl (FlashMoves-then (state S.flash) (state S1.flash) (state S2.flash) true st.exits.carries.shape
          st.exits.moves adv.exits.moves);
      carries = Carries-then (state S.flash) (state S1.flash) (state S2.flash) true st.exits.carries adv.exits.carries;
      torn = λ some. absurd (some (none_chosen (settlement_of state old).noted (chosen_of state old)
          (known_jobs state S S1 O O1 u st ∙ ap (jobs_of S1.noted) none)));
      leaves = λ some. absurd (some (none_chosen (settlement_of state old).noted (chosen_of state old)
          (known_jobs state S S1 O O1 u st ∙ ap (jobs_of S1.noted) none)));
      alone = λ none. inr (
        tag,
        step_since state S O tag 0 true (with_settlement state old) (record new { dropped = true })
            (first_of_own O.all 0 was.tags within)
            (works_then state S S1 O O1 0 there st.tables.0 st.tables.1 st.moment st.names within at.1 S2 O2 true
            st.exits.tables.config st.exits.carries.shape adv.since),
      );
    }
