-- A call of the device that settled and then moved its open transactions: what it says, whichever way it went.
use Rattle.tx_engine.proofs.Common.{◌≡◌, ◌≢◌, ◌⊎◌, ◌<◌, true, List, [], ◌∷◌, length, Result, Ok, Err, refl, sym, ap, ◌∙◌, subst, inl, inr, arith, length-map, Config, Protocol, Broken, FlashState, Moved, Progress, CanWriteAll, StepsTogether, chosen_now, DropsDevice, MovesDevice, jobs_of, AdvancesTo, IsReady, SettlesDevice, OpenTransactionsState, HasLimitsOf, DeviceState, Stands, StoreState, device_in}
use Rattle.tx_engine.specs.Always.{CutsLeave, DevicesStand}
use Rattle.tx_engine.specs.BatchCalls.{first_moved, moved_by, no_moves}
use Rattle.tx_engine.proofs.OfDevice.KeptDevices.{limits_then}
use Rattle.tx_engine.proofs.device.Device.step_all.Answers.AllDone.{moves_chosen}
use Rattle.tx_engine.proofs.OfStepAll.Chosen.{chosen_can}
use Rattle.tx_engine.proofs.device.Device.step_all.Answers.Dropping.{drops_fired, drops_first}
use Rattle.tx_engine.proofs.OfStepAll.Moving.{some_chosen}
use Rattle.tx_engine.proofs.device.Device.step_all.Answers.Movings.{moves_first, moves_none}
use Rattle.tx_engine.proofs.OfStepAll.Nexts.{are_due, nexts_limits}

cases_nil : {X : Type 0} (xs : List X) → (xs ≡ []) ⊎ (xs ≢ [])
cases_nil [] = inl refl
cases_nil (x ∷ xs) = inr (λ is. absurd (let long = ap length is in omega (arith, long)))

-- an answer, and a fault, as what the moving of open transactions gives
abbrev ok_of : Moved → Result Moved Broken
ok_of answer = Ok answer

abbrev err_of : Broken → Result Moved Broken
err_of b = Err b

same_answer : (a b : Moved) → ok_of a ≡ ok_of b → a ≡ b
same_answer a b is = cc

module _ {F : Type 0} (state : F → FlashState) (p : Protocol) (S S1 S2 : StoreState F) (O O1 O2 : OpenTransactionsState)
    (u : Unit {0})
    (stands : Stands state (device_in state S O)) (rule : S.noted.config.protocol ≡ p)
    (st : SettlesDevice state S S1 O O1 (Ok u))
    (size : O1.page_bytes ≡ S1.noted.config.page_bytes) where
  abbrev old : DeviceState F
  old = device_in state S O

  ready : IsReady state p S1 O1
  ready = record {
    stands = st.stands;
    rule = ap (λ (c : Config). c.protocol) st.exits.tables.config ∙ rule;
    sure = st.settles.sure;
  }

  -- what is known of it where it went on
  pub record Moves (answer : Moved) : Type 0 where
    pub moves : MovesDevice state old (device_in state S2 O2) answer
    pub still : Stands state (device_in state S2 O2)
    pub limits : HasLimitsOf O1 O2

  by_first : (answer : Moved) (its : Result Progress Broken) → ok_of answer ≡ moved_by its →
      AdvancesTo state S1 S2 O1 O2 0 its → 0 < length O1.all →
      chosen_now S1 O1 ≡ [] → Moves answer
  by_first answer (Err b) is adv any none = cc
  by_first answer (Ok progress) is adv any none =
      subst Moves (sym (same_answer answer (first_moved progress) is)) (record {
        moves = moves_first state S S1 S2 O O1 O2 u stands st progress adv any none;
        still = adv.stands;
        limits = adv.limits;
      })

  pub all_moved : (answer : Moved) → StepsTogether state S1 S2 O1 O2 (Ok answer) → Moves answer
  all_moved answer h = elim (cases_nil O1.all) [
    | inl none ↦ (
        let its = h.none none in
        subst Moves (sym (same_answer answer no_moves its.0)) (record {
          moves = subst (λ (T : StoreState F). MovesDevice state old (device_in state T O2) no_moves) (sym its.1)
              (subst (λ (o : OpenTransactionsState). MovesDevice state old (device_in state S1 o) no_moves) (sym its.2)
              (moves_none state S S1 S2 O O1 O2 u stands st none));
          still = subst (λ (T : StoreState F). Stands state (device_in state T O2)) (sym its.1)
              (subst (λ (o : OpenTransactionsState). Stands state (device_in state S1 o)) (sym its.2) st.stands);
          limits = subst (HasLimitsOf O1) (sym its.2) (record { page_bytes = refl; logical = refl; pending = refl });
        }))
    | inr some ↦ elim (cases_nil (chosen_now S1 O1)) [
      | inl none ↦ (let its = h.first some none in by_first answer its.its its.answer its.advances its.some none)
      | inr chosen ↦ (
          let its = h.chosen some chosen in
          let any = some_chosen S1.noted (chosen_now S1 O1) chosen in
          let can : CanWriteAll state p S1 O1 (jobs_of S1.noted (chosen_now S1 O1)) =
          chosen_can state p S1 O1 ready size any in
          record {
            moves = moves_chosen state S S1 its.between S2 O O1 its.opens O2 u answer (length (chosen_now S1 O1))
                stands st size any
                (are_due S1.noted S1.table O1 (jobs_of S1.noted (chosen_now S1 O1)) can.due) its.moved.0 its.moved.1
                (sym (length-map (chosen_now S1 O1) _));
            still = its.moved.1.stands;
            limits = limits_then O1 its.opens O2 (subst (HasLimitsOf O1) (sym its.moved.0.opens)
                (nexts_limits (jobs_of S1.noted (chosen_now S1 O1)) 0 O1))
                its.moved.1.limits;
          })
    ]
  ]

  -- and where it met a fault
  pub record Drops : Type 0 where
    pub drops : DropsDevice state old (record (device_in state S2 O2) { dropped = true })
    pub limits : HasLimitsOf O1 O2

  drop_first : (b : Broken) (its : Result Progress Broken) → err_of b ≡ moved_by its →
      AdvancesTo state S1 S2 O1 O2 0 its → 0 < length O1.all →
      chosen_now S1 O1 ≡ [] → DevicesStand state p → CutsLeave state p → Drops
  drop_first b (Ok progress) is adv any none devices cuts = cc
  drop_first b (Err x) is adv any none devices cuts = record {
    drops = drops_first state p S S1 S2 O O1 O2 u x devices cuts rule stands st adv any none;
    limits = adv.limits;
  }

  pub all_dropped : (b : Broken) → DevicesStand state p → CutsLeave state p → StepsTogether state S1 S2 O1 O2 (Err b) → Drops
  all_dropped b devices cuts h = elim (cases_nil O1.all) [
    | inl none ↦ absurd (let no_answer = (h.none none).0 in cc)
    | inr some ↦ elim (cases_nil (chosen_now S1 O1)) [
      | inl none ↦ (let its = h.first some none in drop_first b its.its its.answer its.advances its.some
          none devices cuts)
      | inr chosen ↦ (
          let its = h.chosen some chosen in
          record {
            drops = drops_fired state S S1 S2 O O1 O2 u st size chosen its.broken;
            limits = subst (HasLimitsOf O1) (sym its.kept)
                (record { page_bytes = refl; logical = refl; pending = refl });
          })
    ]
  ]
