-- What several open transactions that went on together make of the array machine, the versions and the flash.
use Rattle.tx_engine.proofs.Common.{◌≡◌, ◌≢◌, ℕ, ◌<◌, ◌≤◌, Bool, List, [], ◌++◌, length, map, drop, get_or, All, Ok, refl, sym, ap, ap₂, ◌∙◌, subst, arith, flat_map, get_or-map, length-map, All-nil, PageWrite, FlashState, moment_of, current_of, GoInTurn, Moved, Progress, Plain, ArrayState, Entry, Pages, AcknowledgeInTurn, AcknowledgesAll, WrittenAll, taken_writes, takes_each, SettlesDevice, VersionsRise, is_there, settled_writes, OpenTransactionsState, TransactionState, entries_of, no_transaction, transaction_at, DeviceState, Stands, settled, settled_entry, StoreState, device_in, Job}
use Rattle.std.proofs.Common.{take}
use Rattle.std.specs.Prelude.{count_by}
use Rattle.std.proofs.lemmas.List.{get_or-take, length-take-le, take-append-le, take_all, take-append-drop}
use Rattle.array_machine.specs.Batches.{StepsAllAs, is_done}
use Rattle.tx_engine.proofs.OfCollect.Collecting.{settled_low}
use Rattle.tx_engine.specs.Exits.{ExitsTogether}
use Rattle.tx_engine.proofs.OfDevice.ExitsThen.{together_after, together_still, rises_then}
use Rattle.tx_engine.proofs.OfStepAll.BatchSteps.{go_in_turn, marked, state_in}
use Rattle.tx_engine.proofs.OfStepAll.Nexts.{AreDue, nexts_entries}

-- The first transactions of a settled device were written at once, and then counted.
module _ {F : Type 0} (state : F → FlashState) (S1 W S2 : StoreState F) (O1 OW O2 : OpenTransactionsState)
    (jobs : List Job) (moved : ℕ) (answer : Moved)
    (stands : Stands state (device_in state S1 O1)) (due : AreDue O1 (length jobs))
    (w : WrittenAll state S1 W O1 OW jobs)
    (k : AcknowledgesAll state W S2 OW O2 moved answer) (as_many : moved ≡ length jobs) where
  abbrev es : List Entry
  es = entries_of O1

  abbrev m : ℕ
  m = length jobs

  abbrev mid : DeviceState F
  mid = device_in state S1 O1

  abbrev new : DeviceState F
  new = device_in state S2 O2

  es_long : m ≤ length es
  es_long = let within = due.within in let same = length-map O1.all (λ (o : TransactionState). o.entry) in
      omega (arith, within, same)

  entry_taken : (i : ℕ) (d : Entry) → i < m → get_or (take m es) i d ≡ (transaction_at O1 i).entry
  entry_taken i d less =
      let within = due.within in
      get_or-take m es i d less ∙ get_or-map (λ (o : TransactionState). o.entry) O1.all i no_transaction d (omega arith)

  taken_long : length (take m es) ≡ m
  taken_long = length-take-le m es es_long

  its_counts : AcknowledgeInTurn (state_in (takes_each mid.machine.pages (take m es)) (map marked (take m es) ++ drop m es))
      (map marked (take m es)) k.each new.machine
  its_counts =
      let now : entries_of OW ≡ map marked (take m es) ++ drop m es = ap entries_of w.opens
      ∙ nexts_entries O1 jobs due in
      let long : length (map marked (take m es)) ≡ m = length-map (take m es) marked ∙ taken_long in
      let first : take moved (entries_of OW) ≡ map marked (take m es) =
      ap₂ (λ c l. take c l) as_many now ∙ take-append-le m (map marked (take m es)) (drop m es) (omega (arith, long))
      ∙ take_all m (map marked (take m es)) (omega (arith, long)) in
      let machine : (device_in state W OW).machine ≡ state_in (takes_each mid.machine.pages (take m es))
      (map marked (take m es) ++ drop m es) =
      ap₂ (λ (ps : Pages) l. state_in ps l) w.pages now in
      subst (λ (s : ArrayState). AcknowledgeInTurn s (map marked (take m es)) k.each new.machine) machine
      (subst (λ l. AcknowledgeInTurn (device_in state W OW).machine l k.each new.machine) first k.counts)

  pub its_turns : GoInTurn mid.machine (take m es) k.each new.machine
  its_turns =
      let whole : take m es ++ drop m es ≡ es = take-append-drop m es in
      subst (λ l. GoInTurn (state_in mid.machine.pages l) (take m es) k.each new.machine) whole
      (go_in_turn (take m es) mid.machine.pages (takes_each mid.machine.pages (take m es)) [] (drop m es)
      k.each new.machine
      (λ i d inside. subst (λ (e : Entry). e.mark ≡ Plain) (sym (entry_taken i d (omega (arith, taken_long, inside))))
      (due.plain i (omega (arith, taken_long, inside))))
      (λ i d inside. All-nil (λ (x : Entry). x.tag ≢ (get_or (take m es) i d).tag))
      (λ i j d less inside.
      let first = get_or-take m es i d (omega (arith, taken_long, inside)) in
      let second = get_or-take m es j d (omega (arith, taken_long, inside)) in
      let apart = stands.tags i j d less (omega (arith, taken_long, inside, es_long)) in
      λ same. apart (ap (λ (e : Entry). e.tag) (sym first) ∙ same ∙ ap (λ (e : Entry). e.tag) second))
      refl its_counts)

  pub chosen_exits : ExitsTogether state mid new
  chosen_exits = together_still state mid (device_in state W OW) new refl refl w.exits k.exits
      (ap (λ (T : StoreState F). moment_of (state T.flash)) k.stays)

  pub chosen_rises : VersionsRise mid new (flat_map taken_writes (take m es))
  unfolding current_of
  chosen_rises =
      let same : (page : ℕ) → current_of S2.noted page ≡ current_of W.noted page =
      λ page. ap (λ (T : StoreState F). current_of T.noted page) k.stays in
      record {
        rises = λ i d inside. let up = w.rises.rises i d inside in
            subst (λ v. current_of S1.noted (get_or (flat_map taken_writes (take m es)) i d).page < v)
            (sym (same (get_or (flat_map taken_writes (take m es)) i d).page)) up;
        stays = λ page low others. same page ∙ w.rises.stays page low others;
      }

-- The state settled first, and then these went on.
module _ {F : Type 0} (state : F → FlashState) (S S1 S2 : StoreState F) (O O1 O2 : OpenTransactionsState) (u : Unit {0})
    (answer : Moved)
    (stands : Stands state (device_in state S O)) (st : SettlesDevice state S S1 O O1 (Ok u)) where
  abbrev old : DeviceState F
  old = device_in state S O

  abbrev there : Bool
  there = is_there state old

  abbrev known : ArrayState
  known = settled there old.machine

  pub then_exits : ExitsTogether state (device_in state S1 O1) (device_in state S2 O2) →
      ExitsTogether state old (device_in state S2 O2)
  then_exits later = together_after state old (device_in state S1 O1) (device_in state S2 O2) refl refl st.exits later

  pub then_rises : (ws : List PageWrite) → All (λ w. w.page < S.noted.config.logical) ws →
      ExitsTogether state (device_in state S1 O1) (device_in state S2 O2) →
      VersionsRise (device_in state S1 O1) (device_in state S2 O2) ws →
      VersionsRise old (device_in state S2 O2) (settled_writes there old.machine ++ ws)
  then_rises ws low later rises =
      rises_then state old (device_in state S1 O1) (device_in state S2 O2) (settled_writes there old.machine) ws
      st.exits.tables.config
      (settled_low state S O there stands) low st.exits.tables.versions later.tables.versions st.settles.rises rises

  -- the chosen ones went on by a step each
  pub then_steps : (count : ℕ) (each : List Progress) → answer.moved ≡ count →
      count ≤ length (entries_of O1) → 0 < count →
      GoInTurn (device_in state S1 O1).machine (take count (entries_of O1)) each (device_in state S2 O2).machine →
      answer.finished ≡ count_by is_done each → StepsAllAs there old.machine (device_in state S2 O2).machine answer
  then_steps count each moved few some turns finished =
      let entries : known.entries ≡ entries_of O1 = ap (λ (s : ArrayState). s.entries) (sym st.settles.machine) in
      let long : length (entries_of O1) ≡ length (entries_of O) = ap length (sym entries)
      ∙ length-map (entries_of O) (settled_entry there) in
      record {
        each = each;
        go = subst (λ (s : ArrayState). GoInTurn s (take answer.moved s.entries) each (device_in state S2 O2).machine)
            st.settles.machine
            (subst (λ c. GoInTurn (device_in state S1 O1).machine (take c (entries_of O1)) each
            (device_in state S2 O2).machine) (sym moved) turns);
        within = omega (arith, moved, few, long);
        finished = finished;
        none = (
          λ is. absurd (omega (arith, is, moved, some)),
          λ is. absurd (let none = ap length is in omega (arith, none, long, few, some)),
        );
      }
