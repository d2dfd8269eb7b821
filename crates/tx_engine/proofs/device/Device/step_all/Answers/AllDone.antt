-- Several open transactions that went on together, as a call of the device: where some were chosen, and where none is
-- open.
use Rattle.tx_engine.proofs.Common.{◌≡◌, ◌≢◌, ℕ, ◌<◌, ◌≤◌, List, [], ◌∷◌, ◌++◌, length, All, Ok, sym, ap, ap₂, ◌∙◌, subst, inl, inr, arith, flat_map, cases_eq, length-map, PageWrite, Config, Shape, FlashState, Does, Load, Moment, fire, moment_of, IndexState, BlocksState, Moved, ArrayState, Entry, AcknowledgesAll, WrittenAll, chosen_now, loads_for, MovesDevice, chosen_of, jobs_of, noted_each, taken_writes, used_each, SettlesDevice, VersionsRise, is_there, settled_writes, OpenTransactionsState, TransactionState, entries_of, settlement_of, DeviceState, Stands, settled, settled_entry, StoreState, device_in, Job}
use Rattle.std.proofs.Common.{take}
use Rattle.std.proofs.lemmas.List.{nil_from_length}
use Rattle.tx_engine.specs.Batches.{WritesAtOnce}
use Rattle.tx_engine.proofs.device.Device.step_all.Answers.AllMoved.{chosen_exits, chosen_rises, its_turns, then_exits, then_rises, then_steps}
use Rattle.tx_engine.proofs.device.Device.step_all.Answers.Dropping.{known_jobs, known_leaves, known_loads}
use Rattle.tx_engine.proofs.OfStepAll.Nexts.{AreDue}

module _ {F : Type 0} (state : F → FlashState) (S S1 W S2 : StoreState F) (O O1 OW O2 : OpenTransactionsState)
    (u : Unit {0}) (answer : Moved) (moved : ℕ)
    (stands : Stands state (device_in state S O)) (st : SettlesDevice state S S1 O O1 (Ok u))
    (size : O1.page_bytes ≡ S1.noted.config.page_bytes)
    (some : jobs_of S1.noted (chosen_now S1 O1) ≢ []) (due : AreDue O1 (length (jobs_of S1.noted (chosen_now S1 O1))))
    (w : WrittenAll state S1 W O1 OW (jobs_of S1.noted (chosen_now S1 O1)))
    (k : AcknowledgesAll state W S2 OW O2 moved answer)
    (as_many : moved ≡ length (jobs_of S1.noted (chosen_now S1 O1))) where
  abbrev jobs : List Job
  jobs = jobs_of S1.noted (chosen_now S1 O1)

  abbrev old : DeviceState F
  old = device_in state S O

  abbrev new : DeviceState F
  new = device_in state S2 O2

  abbrev known : ArrayState
  known = settled (is_there state old) old.machine

  told : answer.moved ≡ length jobs
  told = k.told ∙ as_many

  entries : known.entries ≡ entries_of O1
  entries = ap (λ (s : ArrayState). s.entries) (sym st.settles.machine)

  few : length jobs ≤ length (entries_of O1)
  few = let within = due.within in let same = length-map O1.all (λ (o : TransactionState). o.entry) in
      omega (arith, within, same)

  any : 0 < length jobs
  any = elim (cases_eq (length jobs) 0) [
    | inl none ↦ absurd (some (nil_from_length jobs none))
    | inr more ↦ omega (arith, more)
  ]

  its_jobs : jobs_of (settlement_of state old).noted (chosen_of state old) ≡ jobs
  its_jobs = known_jobs state S S1 O O1 u st

  at_once : WritesAtOnce state old new (chosen_of state old)
  at_once = record {
    does =
        let moment : moment_of (state S2.flash) ≡ moment_of (state W.flash) =
        ap (λ (T : StoreState F). moment_of (state T.flash)) k.stays in
        subst (λ (loads : List Load). Does (state S.flash).shape (moment_of (state S.flash)) (fire loads ∷ [])
        (moment_of (state S2.flash)))
        (sym (known_loads state S S1 O O1 u st size))
        (subst (λ (x : Moment). Does (state S.flash).shape (moment_of (state S.flash))
        (fire (loads_for S1.noted O1 0 jobs) ∷ []) x) (sym moment)
        (subst (λ (sh : Shape). Does sh (moment_of (state S.flash)) (fire (loads_for S1.noted O1 0 jobs) ∷ [])
        (moment_of (state W.flash)))
        st.exits.carries.shape
        (subst (λ (x : Moment). Does (state S1.flash).shape x (fire (loads_for S1.noted O1 0 jobs) ∷ [])
        (moment_of (state W.flash))) st.moment w.does)));
    noted =
        ap (λ (T : StoreState F). T.noted) k.stays
        ∙ ap (λ (n : IndexState). record n { pins = S2.noted.pins }) (w.noted
        ∙ ap₂ (λ (n : IndexState) js. noted_each n js) st.tables.0 (sym its_jobs));
    table = ap (λ (T : StoreState F). T.table) k.stays ∙ w.table
        ∙ ap₂ (λ (t : BlocksState) js. used_each t js) st.tables.1 (sym its_jobs);
    reads = ap (λ (T : StoreState F). (state T.flash).reads) k.stays ∙ w.reads ∙ st.reads;
  }

  pub moves_chosen : MovesDevice state old new answer
  moves_chosen = record {
    steps = then_steps state S S1 S2 O O1 O2 u answer stands st (length jobs) k.each told few any
        (its_turns state S1 W S2 O1 OW O2 jobs moved answer st.stands due w k as_many) k.finished;
    exits = then_exits state S S1 S2 O O1 O2 u answer stands st
        (chosen_exits state S1 W S2 O1 OW O2 jobs moved answer st.stands due w k as_many);
    sure = k.sure;
    rises = subst (λ es. VersionsRise old new (settled_writes (is_there state old) old.machine
        ++ flat_map taken_writes es))
        (ap₂ (λ c (l : List Entry). take c l) (sym told) (sym entries))
        (then_rises state S S1 S2 O O1 O2 u answer stands st
        (flat_map taken_writes (take (length jobs) (entries_of O1)))
        (subst (λ (c : Config). All (λ (v : PageWrite). v.page < c.logical)
        (flat_map taken_writes (take (length jobs) (entries_of O1))))
        st.exits.tables.config w.low)
        (chosen_exits state S1 W S2 O1 OW O2 jobs moved answer st.stands due w k as_many)
        (chosen_rises state S1 W S2 O1 OW O2 jobs moved answer st.stands due w k as_many));
    together = λ chosen. (told ∙ ap length (sym its_jobs) ∙ length-map (chosen_of state old) _, at_once);
    alone = λ none. absurd (some (sym its_jobs ∙ ap (jobs_of (settlement_of state old).noted) none));
    nothing = λ none.
        absurd (let long = ap length none in let same = ap length entries in
        let mapped = length-map (entries_of O) (settled_entry (is_there state old)) in
        omega (arith, long, same, mapped, few, any));
    leaves = λ chosen. known_leaves state S S1 O O1 u st size w.leaves;
  }
