-- What a call of the device says of several transactions that went on, where the first one took a step or none is open.
use Rattle.tx_engine.proofs.Common.{◌≡◌, ℕ, ◌<◌, Bool, List, [], ◌∷◌, ◌++◌, length, map, get_or, All, Some, Ok, refl, sym, ap, ◌∙◌, subst, arith, flat_map, range_with_len, append-nil, length-map, PageWrite, Config, FlashState, IndexState, GoInTurn, Moved, Progress, ArrayState, chosen_now, MovesDevice, chosen_from, chosen_of, jobs_of, taken_writes, AdvancesTo, SettlesDevice, StepsDevice, VersionsRise, done_writes, is_there, settled_writes, OpenTransactionsState, TransactionState, entries_of, no_transaction, transaction_at, settlement_of, DeviceState, Stands, settled, settled_entry, StoreState, device_in}
use Rattle.std.proofs.Common.{take}
use Rattle.std.proofs.lemmas.List.{nil_from_length}
use Rattle.tx_engine.specs.BatchCalls.{first_moved, no_moves}
use Rattle.tx_engine.specs.Batches.{StepsFirst}
use Rattle.tx_engine.proofs.OfCollect.Collecting.{own_writes_low}
use Rattle.open_table.proofs.OfTransactions.OpenList.{entry_first, first_of_own}
use Rattle.tx_engine.proofs.OfDevice.ExitsThen.{together_exits}
use Rattle.tx_engine.proofs.OfDevice.Kept.{from_stands}
use Rattle.tx_engine.proofs.OfStep.StepExits.{done_low}
use Rattle.tx_engine.proofs.device.Device.step_all.Answers.AllMoved.{then_exits, then_rises, then_steps}
use Rattle.tx_engine.proofs.OfStepAll.Chosen.{chosen_ends}
use Rattle.tx_engine.proofs.OfStepAll.Counting.{one_finished}
use Rattle.tx_engine.proofs.device.Device.step_all.Answers.Dropping.{known_jobs}
use Rattle.tx_engine.proofs.device.Device.step_all.Answers.FirstSteps.{stepped, taken_done}
use Rattle.tx_engine.proofs.OfStepAll.Moving.{none_chosen}

take_first : (os : List TransactionState) → 0 < length os → take 1 (map (λ (o : TransactionState). o.entry) os)
    ≡ (get_or os 0 no_transaction).entry ∷ []
take_first [] any = absurd (omega arith)
take_first (o ∷ os) any = refl

first_steps : {F : Type 0} (state : F → FlashState) (old new : DeviceState F) (answer : Moved) (p : Progress)
    (os : List TransactionState) → answer.moved ≡ 1 →
    StepsDevice state old new (get_or os 0 no_transaction).entry.tag (Ok p) →
    StepsFirst state old new answer (map (λ (o : TransactionState). o.entry) os)
first_steps state old new answer p [] one h = tt
first_steps state old new answer p (o ∷ os) one h = (one, (p, h))

module _ {F : Type 0} (state : F → FlashState) (S S1 S2 : StoreState F) (O O1 O2 : OpenTransactionsState) (u : Unit {0})
    (stands : Stands state (device_in state S O)) (st : SettlesDevice state S S1 O O1 (Ok u)) where
  abbrev old : DeviceState F
  old = device_in state S O

  abbrev there : Bool
  there = is_there state old

  abbrev known : ArrayState
  known = settled there old.machine

  entries : known.entries ≡ entries_of O1
  entries = ap (λ (s : ArrayState). s.entries) (sym st.settles.machine)

  none_of : chosen_now S1 O1 ≡ [] → chosen_of state old ≡ []
  none_of none = none_chosen (settlement_of state old).noted (chosen_of state old)
      (known_jobs state S S1 O O1 u st ∙ ap (jobs_of S1.noted) none)

  pub moves_first : (p : Progress) → AdvancesTo state S1 S2 O1 O2 0 (Ok p) → 0 < length O1.all → chosen_now S1 O1 ≡ [] →
      MovesDevice state old (device_in state S2 O2) (first_moved p)
  moves_first p adv any none =
      let new = device_in state S2 O2 in
      let mid = device_in state S1 O1 in
      let e = (transaction_at O1 0).entry in
      let kept = from_stands state S1 O1 st.stands in
      let long : length (entries_of O1) ≡ length (entries_of O) = ap length (sym entries)
      ∙ length-map (entries_of O) (settled_entry there) in
      let mapped = length-map O1.all (λ (o : TransactionState). o.entry) in
      let mapped_old = length-map O.all (λ (o : TransactionState). o.entry) in
      let within : 0 < length O.all = omega (arith, long, mapped, mapped_old, any) in
      let one : take 1 (entries_of O1) ≡ e ∷ [] = take_first O1.all any in
      let turns : GoInTurn mid.machine (take 1 (entries_of O1)) (p ∷ []) new.machine =
      subst (λ es. GoInTurn mid.machine es (p ∷ []) new.machine) (sym one)
      (entry_first e.tag O1.all 0 (first_of_own O1.all 0 kept.tags any), (new.machine, adv.advances, refl)) in
      let taken : flat_map taken_writes (take 1 (entries_of O1)) ≡ done_writes (Some e) (Ok p) =
      ap (flat_map taken_writes) one ∙ append-nil (taken_writes e)
      ∙ taken_done mid.machine e.tag e p new.machine adv.advances in
      record {
        steps = then_steps state S S1 S2 O O1 O2 u (first_moved p) stands st 1 (p ∷ []) refl
            (omega (arith, mapped, any)) (omega arith) turns
            (sym (one_finished p));
        exits = then_exits state S S1 S2 O O1 O2 u (first_moved p) stands st (together_exits state mid new adv.exits);
        sure = adv.sure;
        rises = subst (λ es. VersionsRise old new (settled_writes there old.machine ++ flat_map taken_writes es))
            (ap (take 1) (sym entries))
            (then_rises state S S1 S2 O O1 O2 u (first_moved p) stands st
            (flat_map taken_writes (take 1 (entries_of O1)))
            (subst (All (λ (w : PageWrite). w.page < S.noted.config.logical)) (sym taken)
            (subst (λ (c : Config). All (λ (w : PageWrite). w.page < c.logical) (done_writes (Some e) (Ok p)))
            st.exits.tables.config
            (done_low S1.noted.config.logical e p (own_writes_low (state S1.flash) S1.noted O1 S1.table S1.unsure
            kept 0 any))))
            (together_exits state mid new adv.exits) (subst (VersionsRise mid new) (sym taken) adv.rises));
        together = λ some. absurd (some (none_of none));
        alone = λ is. first_steps state old new (first_moved p) p O.all refl
            (stepped state S S1 S2 O O1 O2 u p stands st adv within);
        nothing = λ is. absurd (let gone = ap length is in omega (arith, gone, mapped_old, within));
        leaves = λ some. absurd (some (none_of none));
      }

  pub moves_none : O1.all ≡ [] → MovesDevice state old (device_in state S1 O1) no_moves
  moves_none none =
      let mapped = length-map O1.all (λ (o : TransactionState). o.entry) in
      let mapped_settled = length-map (entries_of O) (settled_entry there) in
      let gone : entries_of O ≡ [] = nil_from_length (entries_of O)
      (let long = ap length entries in let zero = ap length none in
      omega (arith, long, zero, mapped, mapped_settled)) in
      record {
        steps = record {
          each = [];
          go = st.settles.machine;
          within = omega arith;
          finished = refl;
          none = (λ is. gone, λ is. refl);
        };
        exits = together_exits state old (device_in state S1 O1) st.exits;
        sure = st.settles.sure;
        rises = subst (VersionsRise old (device_in state S1 O1)) (sym (append-nil (settled_writes there old.machine)))
            st.settles.rises;
        together = λ some. absurd
            (some (none_of (ap (chosen_from S1.noted S1.table (range_with_len 0 S1.table.shape.dies)) none
            ∙ chosen_ends S1.noted S1.table (range_with_len 0 S1.table.shape.dies))));
        alone = λ is. subst (StepsFirst state old (device_in state S1 O1) no_moves) (sym gone) tt;
        nothing = λ is. (
          st.moment,
          record {
            tables = record {
              noted = st.tables.0 ∙ ap (λ (q : List ℕ). record (settlement_of state old).noted { pins = q })
                  (sym (ap (λ (n : IndexState). n.pins) st.tables.0));
              table = st.tables.1;
            };
            reads = st.reads;
          },
        );
        leaves = λ some. absurd
            (some (none_of (ap (chosen_from S1.noted S1.table (range_with_len 0 S1.table.shape.dies)) none
            ∙ chosen_ends S1.noted S1.table (range_with_len 0 S1.table.shape.dies))));
      }
