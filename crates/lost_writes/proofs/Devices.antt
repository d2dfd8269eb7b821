-- What a loss leaves of the calls of a device, by what each of them says.
use Rattle.lost_writes.proofs.Common.{◌≡◌, ◌≢◌, ℕ, ◌⊎◌, All, All-cons, Bool, true, false, List, [], ◌∷◌, Contains, Contains-cases, Contains-nil, Option, None, refl, sym, ap, ◌∙◌, subst, inl, inr, arith, LossLaw, PartialWriteLaw, CompletingWriteLaw, Protocol, Shape, array_in}
use Rattle.std.proofs.Common.{◌<◌, Some, Ok, Err, Result, eqb-true, cond}
use Rattle.std.proofs.lemmas.List.{length-replicate}
use Rattle.std.specs.Prelude.{find, ◌+◌, length, replicate}
use Rattle.std.specs.List.{zip}
use Rattle.std.specs.Result.{is_err}
use Rattle.tx_types.specs.Config.{IsShape}
use Rattle.tx_types.specs.declared.config.Config.{Config}
use Rattle.flash_model.specs.Flash.{FlashState}
use Rattle.flash_model.specs.declared.outcome.Outcome.{Outcome}
use Rattle.flash_model.specs.declared.outcome.Outcome.TheVariants as outcome
use Rattle.flash_model.specs.Operations.{Operation, fire, Moment, moment_of, left_each}
use Rattle.std.proofs.lemmas.List.Elements.{All-nil}
use Rattle.flash_model.specs.Moves.{Does, Moves}
use Rattle.judged_records.specs.Images.{IsSoundImage}
use Rattle.array_machine.specs.ArrayState.{Entry, entry_of, has_tag}
use Rattle.array_machine.specs.Step.{IsAtLast, settled, settled_entry}
use Rattle.array_machine.specs.Batches.{MayTakeEach}
use Rattle.array_machine.specs.declared.answers.Moved.{Moved}
use Rattle.array_machine.specs.declared.answers.Progress.{Progress}
use Rattle.array_machine.specs.declared.answers.Progress.TheVariants as progress
use Rattle.array_machine.specs.declared.answers.StepError.{StepError}
use Rattle.array_machine.specs.declared.answers.StepError.TheVariants as failed
use Rattle.array_machine.proofs.UnbrokenCalls.{tagged}
use Rattle.array_runs.proofs.Finishes.{Writes, found_writes, wrote_found, found_is_in}
use Rattle.array_runs.specs.Run.{MayComplete}
use Rattle.host_protocol.specs.declared.command.Command.{Command}
use Rattle.host_protocol.specs.declared.command.Command.TheVariants as command
use Rattle.collector.specs.SinceErase.{WorksSinceErase}
use Rattle.collector.specs.declared.unsure.Unsure.{Unsure}
use Rattle.collector.specs.declared.unsure.Unsure.TheVariants as unsure
use Rattle.open_table.specs.OpenTransactionsState.{Naming}
use Rattle.tx_engine.specs.Always.{CutsLeave}
use Rattle.tx_engine.specs.Batches.{ChosenMayLeave, DropsDevice, MovesDevice, StepsFirst, chosen_of, loads_of}
use Rattle.tx_engine.specs.DeviceCalls.{StepsDevice}
use Rattle.tx_engine.specs.DeviceState.{DeviceState}
use Rattle.tx_engine.specs.Exits.{WorksSince, is_there, is_step_fault}
use Rattle.tx_engine.specs.LastWrite.{StepSince, StepWorks, WritesLast, WritesLastOf}
use Rattle.tx_engine.specs.Readying.{is_ready_fault}
use Rattle.collector.specs.Settling.{settlement}
use Rattle.tx_engine.specs.Settling.{settlement_of, with_settlement}
use Rattle.lost_writes.specs.AfterLoss.{AreSome, MayStart, IsArrayOf}
use Rattle.lost_writes.specs.UnderOneFlush.{EndsAlone, IsNoErase, IsCutByLoss, DeviceIsCutByLoss, MayBegin, StepsInTurn, StepLoss, FinishLoss, StepAllLoss, AbortLoss, CollectLoss, ReadyLoss}
use Rattle.lost_writes.specs.Room.{is_blank_in}
use Rattle.lost_writes.specs.Waiting.{IsLeftOf}
use Rattle.lost_writes.proofs.Fires.{fire_left}
use Rattle.lost_writes.proofs.Carried.{IsCarried, carried_start, carried_on, carried_still}
use Rattle.lost_writes.proofs.UnderOneFlush.{works_cut, still_cut, last_cut}

-- ---- entries

abbrev first_of : Option (Entry × Naming) → Option Entry
first_of None = None
first_of (Some a) = Some a.0

-- the open transaction that is found with its names is found without
found_first : (tag : ℕ) (es : List Entry) (xs : List Naming) (e : Entry) (x : Naming) →
    find (λ (e, x). has_tag tag e) (zip es xs) ≡ Some (e, x) → entry_of tag es ≡ Some e
found_first tag [] xs e x h = cc
found_first tag (y ∷ es) [] e x h = cc
found_first tag (y ∷ es) (z ∷ xs) e x h = by (has_tag tag y) (found_first tag es xs e x) h
  where
    by : (b : Bool) → (find (λ (e, x). has_tag tag e) (zip es xs) ≡ Some (e, x) → entry_of tag es ≡ Some e) →
        cond b (Some (y, z)) (find (λ (e, x). has_tag tag e) (zip es xs)) ≡ Some (e, x) →
        cond b (Some y) (entry_of tag es) ≡ Some e
    by true rest is = ap first_of is
    by false rest is = rest is

-- one that is there is some of those
one_of : (e : Entry) (es : List Entry) → Contains es e → AreSome (e ∷ []) es
one_of e [] c = absurd (Contains-nil e c)
one_of e (x ∷ es) c = elim (Contains-cases x es e c) [
  | inl same ↦ inl (sym same, tt)
  | inr i ↦ inr (one_of e es i)
]

-- where nothing is unsure the tables are known
settled_spare : {F : Type 0} (state : F → FlashState) (s : DeviceState F) → s.unsure ≡ unsure.Nothing →
    (settlement_of state s).table.spare ≡ s.table.spare
settled_spare state s sure = ap (λ (u : Unsure). (settlement s.noted s.table (state s.flash).image u).table.spare) sure

-- ---- a command

module _ {F : Type 0} (state : F → FlashState) (p : Protocol) (loss : LossLaw p) (partial : PartialWriteLaw p)
    (completing : CompletingWriteLaw p) (cuts : CutsLeave state p) (start : DeviceState F)
    (begin : MayBegin state p start) where
  abbrev logical : ℕ
  logical = start.config.logical

  abbrev shape : Shape
  shape = (state start.flash).shape

  abbrev first : Moment
  first = moment_of (state start.flash)

  sound : IsSoundImage p logical shape first.image
  sound = subst (λ q. IsSoundImage q logical shape first.image) begin.rule
      (subst (λ (k : Config). IsSoundImage k.protocol k.logical shape first.image) (sym begin.stands.config)
      begin.stands.matches.sound)

  bounds : IsShape shape
  bounds = begin.stands.matches.flash.bounds

  -- its array is that of the image, before it settled or after
  array : IsArrayOf p logical start.machine first.image
  array =
      let h = cuts.settled start start false begin.stands begin.rule (inl refl) in
      (h.0, elim h.1 [ inl same ↦ same | inr took ↦ absurd took.1.1 ])

  -- no transaction goes on
  pub work_cut : (c : Command) (new : DeviceState F) (broken : Bool) → WorksSince state start new broken →
      IsCutByLoss p logical shape c start.machine first (moment_of (state new.flash))
  work_cut c new broken works =
      works_cut p loss partial completing logical shape bounds c start.machine first array first
      (moment_of (state new.flash)) 0 (carried_start p logical shape first 0 sound) broken
      (subst (λ q. WorksSinceErase q logical shape first broken (moment_of (state new.flash))) begin.rule works)

  -- nothing was done
  pub still_begun : (c : Command) (new : DeviceState F) → moment_of (state new.flash) ≡ first →
      IsCutByLoss p logical shape c start.machine first (moment_of (state new.flash))
  still_begun c new same =
      still_cut p loss partial completing logical shape bounds c start.machine first array first
      (moment_of (state new.flash)) 0 (carried_start p logical shape first 0 sound) same

  -- ---- a transaction that goes on

  module _ (tag : ℕ) (own : Entry) (found : entry_of tag start.machine.entries ≡ Some own) where
    -- what is known where it went on by some pages
    record GoesOn (d : DeviceState F) : Type 0 where
      config : d.config ≡ start.config
      shapes : (state d.flash).shape ≡ shape
      carried : IsCarried p logical shape first (moment_of (state d.flash)) (settlement_of state d).table.spare
      its : (e : Entry) → entry_of tag d.machine.entries ≡ Some e → e.writes ≡ own.writes

    goes_start : GoesOn start
    goes_start = record {
      config = refl;
      shapes = refl;
      carried = carried_start p logical shape first (settlement_of state start).table.spare sound;
      its = λ e is. let same : own ≡ e = cc in ap (λ (a : Entry). a.writes) (sym same);
    }

    -- in the configuration of the begin
    module _ (d : DeviceState F) (goes : GoesOn d) (new : DeviceState F) (e : Entry) (x : Naming) (broken : Bool) where
      last_as : WritesLastOf state (with_settlement state d) new e x broken →
          WritesLast p logical shape (moment_of (state d.flash)) (settlement_of state d).table.spare e x.names broken
          (moment_of (state new.flash)) new.table.spare
      last_as w =
          subst (λ q. WritesLast q logical shape (moment_of (state d.flash)) (settlement_of state d).table.spare e
          x.names broken (moment_of (state new.flash)) new.table.spare) begin.rule
          (subst (λ (s : Shape). WritesLast start.config.protocol logical s (moment_of (state d.flash))
          (settlement_of state d).table.spare e x.names broken (moment_of (state new.flash)) new.table.spare)
          goes.shapes
          (subst (λ (k : Config). WritesLast k.protocol k.logical (state d.flash).shape (moment_of (state d.flash))
          (settlement_of state d).table.spare e x.names broken (moment_of (state new.flash)) new.table.spare)
          goes.config w))

      works_as : WorksSince state (with_settlement state d) new broken →
          WorksSinceErase p logical shape (moment_of (state d.flash)) broken (moment_of (state new.flash))
      works_as w =
          subst (λ q. WorksSinceErase q logical shape (moment_of (state d.flash)) broken (moment_of (state new.flash)))
          begin.rule
          (subst (λ (s : Shape). WorksSinceErase start.config.protocol logical s (moment_of (state d.flash)) broken
          (moment_of (state new.flash))) goes.shapes
          (subst (λ (k : Config). WorksSinceErase k.protocol k.logical (state d.flash).shape
          (moment_of (state d.flash)) broken (moment_of (state new.flash))) goes.config w))

    -- a page more was written, and it is open yet
    module _ (d mid : DeviceState F) (goes : GoesOn d) (done all : ℕ)
        (step : StepsDevice state d mid tag (Ok (progress.Wrote done all))) where
      its_step : (e : Entry) × Writes (is_there state d) d.machine mid.machine tag e
      its_step = found_writes (entry_of tag d.machine.entries) (is_there state d) d.machine mid.machine tag done all
          (Ok (progress.Wrote done all)) refl refl step.steps

      since : StepSince state d (with_settlement state d) mid tag false
      since = step.since (λ is. cc)

      not_last : IsAtLast since.entry → ⊥
      not_last last =
          let one : entry_of tag d.machine.entries ≡ Some since.entry =
          found_first tag d.machine.entries d.namings since.entry since.naming since.is_open in
          let two = its_step.1.found in
          let same : its_step.0 ≡ since.entry = cc in
          let more = subst (λ (a : Entry). a.done + 1 < length a.writes) same its_step.1.more in
          omega (arith, more, last)

      moves : Moves shape (moment_of (state d.flash)) false (moment_of (state mid.flash))
      moves = subst (λ (s : Shape). Moves s (moment_of (state d.flash)) false (moment_of (state mid.flash))) goes.shapes
          step.exits.moves

      carried_mid : IsCarried p logical shape first (moment_of (state mid.flash)) mid.table.spare
      carried_mid = elim since.works [
        | inl none ↦ carried_still p logical shape first (moment_of (state d.flash)) (moment_of (state mid.flash))
            (settlement_of state d).table.spare mid.table.spare goes.carried none.0 none.1
        | inr w ↦ carried_on p logical shape partial bounds first (moment_of (state d.flash))
            (settlement_of state d).table.spare since.entry since.naming.names (moment_of (state mid.flash))
            mid.table.spare (last_as d goes mid since.entry since.naming false w) goes.carried moves not_last
      ]

      goes_on : GoesOn mid
      goes_on = record {
        config = step.exits.tables.config ∙ goes.config;
        shapes = step.exits.carries.shape ∙ goes.shapes;
        carried = subst (IsCarried p logical shape first (moment_of (state mid.flash)))
            (sym (settled_spare state mid step.sure)) carried_mid;
        its = λ e is.
            let now = wrote_found d.machine mid.machine (is_there state d) tag its_step.0 its_step.1 in
            let same : e ≡ record (settled_entry (is_there state d) its_step.0) { done = its_step.0.done + 1 } = cc in
            ap (λ (a : Entry). a.writes) same ∙ goes.its its_step.0 its_step.1.found;
      }

    -- the last of its steps
    module _ (c : Command) (few : MayStart c 1) (d new : DeviceState F) (goes : GoesOn d) (broken : Bool)
        (last : StepSince state d (with_settlement state d) new tag broken)
        (may : (e : Entry) → entry_of tag d.machine.entries ≡ Some e → IsAtLast e → MayComplete c own) where
      there : entry_of tag d.machine.entries ≡ Some last.entry
      there = found_first tag d.machine.entries d.namings last.entry last.naming last.is_open

      by_last : (b : Bool) → WritesLastOf state (with_settlement state d) new last.entry last.naming b →
          IsCutByLoss p logical shape c start.machine first (moment_of (state new.flash))
      by_last b w =
          last_cut p loss partial completing logical shape bounds c start.machine first array
          (moment_of (state d.flash)) (settlement_of state d).table.spare last.entry last.naming.names b
          (moment_of (state new.flash)) new.table.spare (last_as d goes new last.entry last.naming b w)
          goes.carried own (sym (goes.its last.entry there))
          (one_of own start.machine.entries (found_is_in tag start.machine.entries own found)) few
          (may last.entry there)

      by_works : (b : Bool) → StepWorks state (with_settlement state d) new last.entry last.naming b →
          IsCutByLoss p logical shape c start.machine first (moment_of (state new.flash))
      by_works false (inl none) =
          still_cut p loss partial completing logical shape bounds c start.machine first array
          (moment_of (state d.flash)) (moment_of (state new.flash)) (settlement_of state d).table.spare goes.carried
          none.0
      by_works false (inr w) = by_last false w
      by_works true (inl works) =
          works_cut p loss partial completing logical shape bounds c start.machine first array
          (moment_of (state d.flash)) (moment_of (state new.flash)) (settlement_of state d).table.spare goes.carried
          true (works_as d goes new last.entry last.naming true works)
      by_works true (inr w) = by_last true w

      end_cut : IsCutByLoss p logical shape c start.machine first (moment_of (state new.flash))
      end_cut = by_works broken last.works

    tag_is : own.tag ≡ tag
    tag_is = eqb-true own.tag tag (tagged tag start.machine.entries own found)

    turns_cut : (mids : List (DeviceState F)) (d new : DeviceState F) (result : Result Progress StepError) →
        GoesOn d → StepsInTurn state tag d mids new result → result ≢ Err failed.Unknown →
        IsCutByLoss p logical shape (command.Finish tag) start.machine first (moment_of (state new.flash))
    turns_cut [] d new result goes step known =
        end_cut (command.Finish tag) (omega arith) d new goes (is_step_fault result) (step.since known)
        (λ e is last. tag_is)
    turns_cut (mid ∷ mids) d new result goes turns known =
        turns_cut mids mid new result (goes_on d mid goes turns.0.0 turns.0.1 turns.0.2) turns.1 known

    its_last : (e : Entry) → entry_of tag start.machine.entries ≡ Some e → IsAtLast e → IsAtLast own
    its_last e is last = let same : e ≡ own = cc in subst IsAtLast same last

    pub step_cut : (new : DeviceState F) (broken : Bool) → StepSince state start (with_settlement state start) new tag
        broken → IsCutByLoss p logical shape (command.Step tag) start.machine first (moment_of (state new.flash))
    step_cut new broken step =
        end_cut (command.Step tag) (omega arith) start new goes_start broken step
        (λ e is last. (tag_is, its_last e is last))

    -- as the first of several that go on
    pub first_cut : (new : DeviceState F) (broken : Bool) → StepSince state start (with_settlement state start) new tag
        broken → IsCutByLoss p logical shape command.StepAll start.machine first (moment_of (state new.flash))
    first_cut new broken step = end_cut command.StepAll tt start new goes_start broken step its_last

    pub finish_cut : (mids : List (DeviceState F)) (new : DeviceState F) (result : Result Progress StepError) →
        StepsInTurn state tag start mids new result → result ≢ Err failed.Unknown →
        IsCutByLoss p logical shape (command.Finish tag) start.machine first (moment_of (state new.flash))
    finish_cut mids new result turns known = turns_cut mids start new result goes_start turns known

-- the open transaction of a step
opens : {F : Type 0} (state : F → FlashState) (tag : ℕ) (old known new : DeviceState F) (broken : Bool)
    (n : StepSince state old known new tag broken) → entry_of tag old.machine.entries ≡ Some n.entry
opens state tag old known new broken n =
    found_first tag old.machine.entries old.namings n.entry n.naming n.is_open

-- and of the first of some steps
opens_first : {F : Type 0} (state : F → FlashState) (tag : ℕ) (old : DeviceState F) (mids : List (DeviceState F))
    (new : DeviceState F) (result : Result Progress StepError) → StepsInTurn state tag old mids new result →
    result ≢ Err failed.Unknown → (e : Entry) × (entry_of tag old.machine.entries ≡ Some e)
opens_first state tag old [] new result step known =
    let n = step.since known in
    (n.entry, opens state tag old (with_settlement state old) new (is_step_fault result) n)
opens_first state tag old (mid ∷ mids) new result turns known =
    let n = turns.0.2.since (λ is. cc) in
    (n.entry, opens state tag old (with_settlement state old) mid false n)

cases_nil : {X : Type 0} (xs : List X) → (xs ≡ []) ⊎ (xs ≢ [])
cases_nil [] = inl refl
cases_nil (x ∷ xs) = inr (λ is. absurd (let long = ap length is in omega (arith, long)))

module _ {F : Type 0} (state : F → FlashState) (p : Protocol) (loss : LossLaw p) (partial : PartialWriteLaw p)
    (completing : CompletingWriteLaw p) (cuts : CutsLeave state p) where
  pub finish_loss : FinishLoss state p
  finish_loss old mids new tag result begin turns known =
      let own = opens_first state tag old mids new result turns known in
      finish_cut state p loss partial completing cuts old begin tag own.0 own.1 mids new result turns known

  pub step_loss : StepLoss state p
  step_loss old new tag result begin step known =
      let n = step.since known in
      step_cut state p loss partial completing cuts old begin tag n.entry
      (opens state tag old (with_settlement state old) new (is_step_fault result) n) new (is_step_fault result) n

  pub abort_loss : AbortLoss state p
  abort_loss old new tag result begin aborts =
      still_begun state p loss partial completing cuts old begin (command.Abort tag) new aborts.moment

  pub collect_loss : CollectLoss state p
  collect_loss old new result begin collects =
      work_cut state p loss partial completing cuts old begin command.Collect new (is_err result) collects.since

  pub ready_loss : ReadyLoss state p
  ready_loss old new tag result c begin readies known =
      work_cut state p loss partial completing cuts old begin c new (is_ready_fault result) (readies.since known)

  -- ---- several transactions that go on together

  module _ (old new : DeviceState F) (begin : MayBegin state p old) where
    abbrev IsCut : Type 0
    IsCut = DeviceIsCutByLoss state p command.StepAll old new

    -- nothing was done
    nothing_done : moment_of (state new.flash) ≡ moment_of (state old.flash) → IsCut
    nothing_done same = still_begun state p loss partial completing cuts old begin command.StepAll new same

    -- the first one took a step
    first_step : (tag : ℕ) (broken : Bool) → StepSince state old (with_settlement state old) new tag broken → IsCut
    first_step tag broken n =
        first_cut state p loss partial completing cuts old begin tag n.entry
        (opens state tag old (with_settlement state old) new broken n) new broken n

    -- their fire is all that was done, or is what comes last
    record FiresAlone : Type 0 where
      programs : List Operation
      alone : All IsNoErase programs
      between : Moment
      does : Does (state old.flash).shape (moment_of (state old.flash)) programs between
      ends : EndsAlone (state old.flash).shape between (moment_of (state new.flash))

    -- some were chosen, and each of their programs left something
    fired : ChosenMayLeave state old → (hows : List Outcome) →
        length hows ≡ length (loads_of (with_settlement state old).noted (chosen_of state old)) →
        (state new.flash).image ≡ left_each (state old.flash).image
        (loads_of (with_settlement state old).noted (chosen_of state old)) hows →
        FiresAlone → IsCut
    fired leaves hows as_many is ends =
        let loads = loads_of (with_settlement state old).noted (chosen_of state old) in
        let image = (state old.flash).image in
        record {
          base = moment_of (state old.flash);
          durable = inl refl;
          array = refl;
          programs = ends.programs;
          alone = ends.alone;
          between = ends.between;
          does = ends.does;
          left = inl (
            ends.ends,
            λ left lost.
                let f = fire_left image loads hows left as_many
                (subst (λ i. IsLeftOf (is_blank_in image) i left) is lost) in
                record {
                  sound = subst (λ q. IsSoundImage q old.config.logical (state old.flash).shape left) begin.rule
                      (subst (IsSoundImage old.config.protocol old.config.logical (state old.flash).shape) (sym f.is)
                      (leaves.sound f.hows f.each));
                  cut = (
                    is_there state old,
                    subst (λ q. MayTakeEach (settled (is_there state old) old.machine).pages IsAtLast old.machine.entries
                        (array_in q old.config.logical left)) begin.rule
                        (subst (λ i. MayTakeEach (settled (is_there state old) old.machine).pages IsAtLast
                        old.machine.entries (array_in old.config.protocol old.config.logical i)) (sym f.is)
                        (leaves.array f.hows f.each)),
                    refl,
                  );
                },
          );
        }

    moved : (answer : Moved) → MovesDevice state old new answer → IsCut
    moved answer moves = elim (cases_nil (chosen_of state old)) [
      | inr some ↦ (
          let once = (moves.together some).1 in
          let loads = loads_of (with_settlement state old).noted (chosen_of state old) in
          fired (moves.leaves some) (replicate (length loads) outcome.All) (length-replicate (length loads) outcome.All)
          (ap (λ (m : Moment). m.image) once.does.1) (record {
            programs = fire loads ∷ [];
            alone = All-cons IsNoErase (fire loads) [] tt (All-nil IsNoErase);
            between = moment_of (state new.flash);
            does = once.does;
            ends = inl refl;
          }))
      | inl none ↦ by_first old.machine.entries refl (moves.alone none)
    ]
      where
        by_first : (es : List Entry) → old.machine.entries ≡ es → StepsFirst state old new answer es → IsCut
        by_first [] is steps = nothing_done (moves.nothing is).0
        by_first (e ∷ es) is steps = first_step e.tag false (steps.1.1.since (λ is. cc))

    dropped : DropsDevice state old new → IsCut
    dropped drops = elim (cases_nil (chosen_of state old)) [
      | inr some ↦ elim (drops.torn some) [
        | inl same ↦ nothing_done same
        | inr breaks ↦ elim (drops.leaves some) [
          | inl same ↦ nothing_done same
          | inr leaves ↦ fired leaves breaks.0.left.0 breaks.0.left.1 breaks.0.left.2 (record {
            programs = [];
            alone = All-nil IsNoErase;
            between = moment_of (state old.flash);
            does = refl;
            ends = inr (fire (loads_of (with_settlement state old).noted (chosen_of state old)), tt, breaks);
          })
        ]
      ]
      | inl none ↦ elim (drops.alone none) [
        | inl same ↦ nothing_done same
        | inr step ↦ first_step step.0 true step.1
      ]
    ]

  pub step_all_loss : StepAllLoss state p
  step_all_loss old new (Ok answer) begin steps = moved old new begin answer steps.moves
  step_all_loss old new (Err fault) begin steps = dropped old new begin steps.dropped
