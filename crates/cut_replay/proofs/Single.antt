-- Commands that are one call of a device.
use Rattle.cut_replay.proofs.Common.{◌≡◌, ℕ, Bool, true, false, List, [], ◌∷◌, ◌++◌, Option, Some, None, Result, Ok, Err, refl, sym, ap, ◌∙◌, subst, inl, inr, OnOk, IfOk, Config, Protocol, Shape, shape_of, FlashState, Moment, moment_of, array_in, IndexState, ArrayState, idle, DeviceState, Reply, is_break, Point, Tells, is_fault, is_lost, HoldsAlways, point_at, ServesHere}
use Rattle.std.specs.Prelude.{MatchOption, min}
use Rattle.std.proofs.lemmas.List.Quantifiers.{Any-push}
use Rattle.std.specs.Result.{is_err}
use Rattle.flash_model.specs.Moves.{Does}
use Rattle.flash_model.specs.Operations.{Operation, erase}
use Rattle.die_alloc.specs.BlocksState.{BlocksState}
use Rattle.collector.specs.Collecting.{cleaning}
use Rattle.collector.specs.declared.unsure.Unsure.TheVariants as unsure
use Rattle.array_machine.specs.ArrayState.{Entry, entry_of}
use Rattle.tx_engine.specs.Exits.{Exits, is_step_fault, is_abort_fault}
use Rattle.array_machine.specs.Collect.{CollectsAs}
use Rattle.tx_engine.specs.DeviceCalls.{AbortsDevice, CollectsDevice, StepsDevice}
use Rattle.tx_engine.specs.Collections.{CollectsTables, HasNothingToCollect}
use Rattle.array_machine.specs.declared.answers.Collected.{Collected}
use Rattle.array_machine.specs.declared.answers.Collected.TheVariants as collected
use Rattle.array_machine.specs.declared.answers.Fault.{Fault}
use Rattle.array_machine.specs.Step.{StepsAs, AbortsAs, AbortGives, CutLeaves, settled, settled_entry}
use Rattle.array_machine.specs.declared.answers.Progress.{Progress}
use Rattle.array_machine.specs.declared.answers.Progress.TheVariants as progress
use Rattle.array_machine.specs.declared.answers.StepError.{StepError}
use Rattle.array_machine.specs.declared.answers.StepError.TheVariants as failed
use Rattle.array_machine.specs.declared.answers.Aborted.{Aborted}
use Rattle.array_machine.specs.declared.answers.Aborted.TheVariants as aborted
use Rattle.host_protocol.specs.declared.command.Command.TheVariants as command
use Rattle.array_runs.specs.Run.{step_reply, abort_reply, collect_reply, pages_left}
use Rattle.cut_replay.specs.Costs.{CostsCollection, CostsPages, CostsStep}
use Rattle.cut_replay.specs.FlashRun.{HasErased, IsErase}
use Rattle.cut_replay.specs.Mounted.{MayHaveCut}
use Rattle.cut_replay.proofs.Devices.{exits_serve}

-- A step
step_breaks : (tag : ℕ) (result : Result Progress StepError) →
    (is_break (step_reply tag result) ≡ is_step_fault result) ×
    (is_fault (step_reply tag result) ≡ is_step_fault result) × (is_lost (step_reply tag result) ≡ false)
step_breaks tag (Ok (progress.Wrote done all)) = (refl, refl, refl)
step_breaks tag (Ok progress.Done) = (refl, refl, refl)
step_breaks tag (Err failed.Unknown) = (refl, refl, refl)
step_breaks tag (Err failed.Fault) = (refl, refl, refl)

pub step_tells : (its : Config) (faulted : Bool) (old new : Point) (tag : ℕ) (result : Result Progress StepError) →
    Tells its faulted old (step_reply tag result) new
step_tells its faulted old new tag (Ok (progress.Wrote done all)) = tt
step_tells its faulted old new tag (Ok progress.Done) = tt
step_tells its faulted old new tag (Err failed.Unknown) = tt
step_tells its faulted old new tag (Err failed.Fault) = tt

step_sure : {F : Type 0} (old new : DeviceState F) (tag : ℕ) (result : Result Progress StepError) →
    OnOk result (new.unsure ≡ unsure.Nothing) →
    (result ≡ Err failed.Unknown → new ≡ old) →
    old.unsure ≡ unsure.Nothing → is_fault (step_reply tag result) ≡ false → new.unsure ≡ unsure.Nothing
step_sure old new tag (Ok p) sure unknown was whole = sure
step_sure old new tag (Err failed.Unknown) sure unknown was whole = ap (λ (s : DeviceState _). s.unsure) (unknown refl)
    ∙ was
step_sure old new tag (Err failed.Fault) sure unknown was whole = cc

step_cuts : {F : Type 0} (state : F → FlashState) (protocol : Protocol) (old new : DeviceState F) (there : Bool)
    (tag : ℕ) (result : Result Progress StepError) →
    HoldsAlways state protocol new →
    StepsAs there old.machine new.machine tag result → is_fault (step_reply tag result) ≡ true →
    MayHaveCut state (command.Step tag) old new
step_cuts state protocol old new there tag (Ok (progress.Wrote done all)) is steps fault = cc
step_cuts state protocol old new there tag (Ok progress.Done) is steps fault = cc
step_cuts state protocol old new there tag (Err failed.Unknown) is steps fault = cc
step_cuts state protocol old new there tag (Err failed.Fault) is steps fault =
    record { may = tt; leaves = is.step_cut old.machine there tag steps }

pub step_serves : {F : Type 0} (state : F → FlashState) (protocol : Protocol) (old new : DeviceState F)
    (there : Bool) (tag : ℕ)
    (result : Result Progress StepError) (r : Reply) →
    HoldsAlways state protocol old → HoldsAlways state protocol new → StepsAs there old.machine new.machine tag result →
    Exits state old new (is_step_fault result) →
    OnOk result (new.unsure ≡ unsure.Nothing) → (result ≡ Err failed.Unknown → new ≡ old) →
    CostsPages old.config (min 1 (pages_left tag old.machine)) (moment_of (state old.flash))
    (moment_of (state new.flash)) →
    (old.unsure ≡ unsure.Nothing → CostsStep old.config (command.Step tag) old.machine (moment_of (state old.flash))
    (moment_of (state new.flash))) → StepsDevice state old new tag result → r ≡ step_reply tag result →
    ServesHere state (command.Step tag) old new r
step_serves state protocol old new there tag result r was is steps exits sure unknown costs direct device told =
    let breaks = step_breaks tag result in
    subst (λ (q : Reply). ServesHere state (command.Step tag) old new q) (sym told)
    (exits_serve state protocol (command.Step tag) old new (step_reply tag result) (is_step_fault result) was is exits
    breaks.0 breaks.1 breaks.2
    (result, (there, steps), refl) (λ still. cc) (λ faulted h. step_tells old.config faulted (point_at state old)
    (point_at state new) tag result)
    (step_sure old new tag result sure unknown)
    (step_cuts state protocol old new there tag result is steps) costs direct (result, device, refl) tt)

-- An abort
abort_breaks : (tag : ℕ) (result : Result Aborted StepError) →
    (is_break (abort_reply tag result) ≡ is_abort_fault result) ×
    (is_fault (abort_reply tag result) ≡ is_abort_fault result) × (is_lost (abort_reply tag result) ≡ false)
abort_breaks tag (Ok aborted.Gone) = (refl, refl, refl)
abort_breaks tag (Ok aborted.Late) = (refl, refl, refl)
abort_breaks tag (Err failed.Unknown) = (refl, refl, refl)
abort_breaks tag (Err failed.Fault) = (refl, refl, refl)

abort_tells : (its : Config) (faulted : Bool) (old new : Point) (tag : ℕ) (result : Result Aborted StepError) →
    Tells its faulted old (abort_reply tag result) new
abort_tells its faulted old new tag (Ok aborted.Gone) = tt
abort_tells its faulted old new tag (Ok aborted.Late) = tt
abort_tells its faulted old new tag (Err failed.Unknown) = tt
abort_tells its faulted old new tag (Err failed.Fault) = tt

abort_sure : {F : Type 0} (old new : DeviceState F) (tag : ℕ) (result : Result Aborted StepError) →
    OnOk result (new.unsure ≡ unsure.Nothing) →
    (result ≡ Err failed.Unknown → new ≡ old) →
    old.unsure ≡ unsure.Nothing → is_fault (abort_reply tag result) ≡ false → new.unsure ≡ unsure.Nothing
abort_sure old new tag (Ok p) sure unknown was whole = sure
abort_sure old new tag (Err failed.Unknown) sure unknown was whole = ap (λ (s : DeviceState _). s.unsure) (unknown refl)
    ∙ was
abort_sure old new tag (Err failed.Fault) sure unknown was whole = cc

-- a fault leaves all as before
aborts_same : (o : Option Entry) (there : Bool) (old new : ArrayState) (tag : ℕ) (result : Result Aborted StepError) →
    result ≡ Err failed.Fault →
    MatchOption o ((result ≡ Err failed.Unknown) × (new ≡ old))
    (λ e. AbortGives old (settled there old) tag (settled_entry there e) result new) → new ≡ old
aborts_same None there old new tag result is h = cc
aborts_same (Some e) there old new tag result is h =
    subst (λ (x : Result Aborted StepError). AbortGives old (settled there old) tag
    (settled_entry there e) x new) is h

abort_cuts : {F : Type 0} (state : F → FlashState) (protocol : Protocol) (old new : DeviceState F) (there : Bool)
    (tag : ℕ) (result : Result Aborted StepError) →
    HoldsAlways state protocol new →
    AbortsAs there old.machine new.machine tag result → is_fault (abort_reply tag result) ≡ true →
    MayHaveCut state (command.Abort tag) old new
abort_cuts state protocol old new there tag (Ok aborted.Gone) is aborts fault = cc
abort_cuts state protocol old new there tag (Ok aborted.Late) is aborts fault = cc
abort_cuts state protocol old new there tag (Err failed.Unknown) is aborts fault = cc
abort_cuts state protocol old new there tag (Err failed.Fault) is aborts fault = record {
  may = tt;
  leaves = let same = aborts_same (entry_of tag old.machine.entries) there old.machine new.machine tag
      (Err failed.Fault) refl aborts in
      subst (λ (m : ArrayState). CutLeaves (λ e. ⊥) m
      (idle (array_in new.config.protocol new.config.logical (state new.flash).image))) same is.same_cut;
}

pub abort_serves : {F : Type 0} (state : F → FlashState) (protocol : Protocol) (old new : DeviceState F)
    (there : Bool) (tag : ℕ)
    (result : Result Aborted StepError) (r : Reply) →
    HoldsAlways state protocol old → HoldsAlways state protocol new →
    AbortsAs there old.machine new.machine tag result →
    Exits state old new (is_abort_fault result) →
    moment_of (state new.flash) ≡ moment_of (state old.flash) → OnOk result (new.unsure ≡ unsure.Nothing) →
    (result ≡ Err failed.Unknown → new ≡ old) →
    AbortsDevice state old new tag result → r ≡ abort_reply tag result →
    ServesHere state (command.Abort tag) old new r
abort_serves state protocol old new there tag result r was is aborts exits still sure unknown device told =
    let breaks = abort_breaks tag result in
    subst (λ (q : Reply). ServesHere state (command.Abort tag) old new q) (sym told)
    (exits_serve state protocol (command.Abort tag) old new (abort_reply tag result) (is_abort_fault result) was is
    exits breaks.0 breaks.1 breaks.2
    (result, (there, aborts), refl) (λ h. still) (λ faulted h. abort_tells old.config faulted (point_at state old)
    (point_at state new) tag result)
    (abort_sure old new tag result sure unknown) (abort_cuts state protocol old new there tag result is aborts) tt
    (λ sure. tt) (result, device, refl) tt)

-- A collection
collect_breaks : (result : Result Collected Fault) → (is_break (collect_reply result) ≡ is_err result)
    × (is_fault (collect_reply result) ≡ is_err result) ×
    (is_lost (collect_reply result) ≡ false)
collect_breaks (Ok collected.One) = (refl, refl, refl)
collect_breaks (Ok collected.Nothing) = (refl, refl, refl)
collect_breaks (Err fault) = (refl, refl, refl)

collect_sure : {F : Type 0} (new : DeviceState F) (result : Result Collected Fault) →
    OnOk result (new.unsure ≡ unsure.Nothing) →
    is_fault (collect_reply result) ≡ false → new.unsure ≡ unsure.Nothing
collect_sure new (Ok p) sure whole = sure
collect_sure new (Err fault) sure whole = cc

collect_cuts : {F : Type 0} (state : F → FlashState) (protocol : Protocol) (old new : DeviceState F) (there : Bool)
    (result : Result Collected Fault) →
    HoldsAlways state protocol new →
    CollectsAs there old.machine new.machine result → is_fault (collect_reply result) ≡ true →
    MayHaveCut state command.Collect old new
collect_cuts state protocol old new there (Ok collected.One) is collects fault = cc
collect_cuts state protocol old new there (Ok collected.Nothing) is collects fault = cc
collect_cuts state protocol old new there (Err fault) is (inl same) met = record {
  may = tt;
  leaves = subst (λ (m : ArrayState). CutLeaves (λ e. ⊥) m
      (idle (array_in new.config.protocol new.config.logical (state new.flash).image))) same is.same_cut;
}
collect_cuts state protocol old new there (Err fault) is (inr settles) met =
    record { may = tt; leaves = is.settled_cut old.machine there settles }

-- the operations of a collection end in an erase
erased_last : (its : Config) (shape : Shape) (old new : Moment) (first more : List Operation) (block : ℕ) →
    shape ≡ shape_of its →
    Does shape old (first ++ more ++ erase block ∷ []) new → HasErased its old new
erased_last its shape old new first more block is does = (
  first ++ more ++ erase block ∷ [],
  subst (λ (x : Shape). Does x old (first ++ more ++ erase block ∷ []) new) is does,
  Any-push IsErase (first ++ more) (erase block) tt,
)

abbrev Collections : {F : Type 0} → (F → FlashState) → DeviceState F → DeviceState F → IndexState → BlocksState →
    Collected → Type 0
Collections state old new n t answer = CollectsTables (state old.flash) (state new.flash) n new.noted t new.table answer

collect_tells : {F : Type 0} (state : F → FlashState) (old new : DeviceState F) (n : IndexState) (t : BlocksState)
    (faulted : Bool) (result : Result Collected Fault) →
    (state old.flash).shape ≡ shape_of old.config →
    IfOk result (Collections state old new n t) →
    (result ≡ Ok collected.Nothing → HasNothingToCollect old.config.protocol old.config.logical (state new.flash).image
    new.machine.entries) →
    Tells old.config faulted (point_at state old) (collect_reply result) (point_at state new)
collect_tells state old new n t faulted (Ok collected.One) shape tables nothing =
    erased_last old.config (state old.flash).shape (moment_of (state old.flash)) (moment_of (state new.flash))
    (cleaning n (state old.flash).image t.spare) _ tables.victim shape tables.does
collect_tells state old new n t faulted (Ok collected.Nothing) shape tables nothing = nothing refl
collect_tells state old new n t faulted (Err fault) shape tables nothing = tt

pub collect_serves : {F : Type 0} (state : F → FlashState) (protocol : Protocol) (old new : DeviceState F)
    (there : Bool) (n : IndexState) (t : BlocksState)
    (result : Result Collected Fault) (r : Reply) →
    HoldsAlways state protocol old → HoldsAlways state protocol new → CollectsAs there old.machine new.machine result →
    Exits state old new (is_err result) →
    OnOk result (new.unsure ≡ unsure.Nothing) →
    IfOk result (Collections state old new n t) →
    (result ≡ Ok collected.Nothing → HasNothingToCollect old.config.protocol old.config.logical (state new.flash).image
    new.machine.entries) →
    CostsCollection old.config (collect_reply result) (moment_of (state old.flash)) (moment_of (state new.flash)) →
    CollectsDevice state old new result → r ≡ collect_reply result → ServesHere state command.Collect old new r
collect_serves state protocol old new there n t result r was is collects exits sure tables nothing costs device told =
    let breaks = collect_breaks result in
    subst (λ (q : Reply). ServesHere state command.Collect old new q) (sym told)
    (exits_serve state protocol command.Collect old new (collect_reply result) (is_err result) was is exits breaks.0
    breaks.1 breaks.2
    (result, (there, collects), refl) (λ still. cc) (λ faulted h. collect_tells state old new n t faulted result
    was.shape tables nothing)
    (λ h. collect_sure new result sure) (collect_cuts state protocol old new there result is collects) costs
    (λ sure. tt) (result, device, refl) tt)
