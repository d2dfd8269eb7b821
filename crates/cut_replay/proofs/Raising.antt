-- That the pages of a transaction rise where it is answered as done.
use Rattle.cut_replay.proofs.Common.{◌≡◌, ℕ, ◌+◌, ◌<◌, Bool, false, true, cond, List, [], ◌∷◌, length, take, Option, Some, None, IfSome, Result, Ok, Err, refl, sym, ap, ◌∙◌, subst, inl, inr, arith, Config, Protocol, FlashState, moment_of, DeviceState, Command, Reply, is_fault, HoldsAlways}
use Rattle.std.proofs.Common.{zero, suc, map, eq-eqb}
use Rattle.std.specs.List.{flat_map}
use Rattle.std.specs.Prelude.{All}
use Rattle.std.proofs.lemmas.List.Elements.{All-weaker, All-nil, All-cons}
use Rattle.list_lemmas.proofs.Quantifiers.{all_left, all_right}
use Rattle.tx_types.specs.Batch.{PageWrite}
use Rattle.record_list.specs.Current.{cur}
use Rattle.record_list.specs.declared.found.Found.{Found}
unfoldable use Rattle.judged_records.specs.Images.{current_in}
unfoldable use Rattle.judged_records.specs.IndexState.{current_of}
use Rattle.judged_records.specs.Notes.{found_in}
use Rattle.collector.specs.declared.unsure.Unsure.TheVariants as unsure
use Rattle.array_machine.specs.ArrayState.{Entry, entry_of}
use Rattle.array_machine.specs.Step.{IsAtLast, settled, settled_entry, settled_mark}
use Rattle.array_machine.specs.declared.mark.Mark.{Mark}
use Rattle.array_machine.specs.declared.mark.Mark.TheVariants.{Plain}
use Rattle.array_machine.specs.declared.answers.Moved.{Moved}
use Rattle.array_machine.specs.declared.answers.Progress.{Progress}
use Rattle.array_machine.specs.declared.answers.Progress.TheVariants as progress
use Rattle.array_machine.specs.declared.answers.StepError.{StepError}
use Rattle.array_machine.specs.declared.answers.StepError.TheVariants as failed
use Rattle.array_runs.specs.Run.{step_reply}
use Rattle.array_runs.proofs.Finishes.{Writes, found_writes, settled_found, wrote_found}
use Rattle.host_protocol.specs.declared.command.Command.TheVariants as command
use Rattle.host_protocol.specs.declared.reply.Reply.TheVariants as reply
use Rattle.tx_engine.specs.Batches.{MovesDevice, taken_writes}
use Rattle.tx_engine.specs.DeviceCalls.{StepsDevice}
use Rattle.tx_engine.specs.Exits.{VersionsTell, done_writes, is_plain, is_there, plain_writes, settled_writes}
use Rattle.tx_engine.specs.Settling.{is_at_last}
use Rattle.cut_replay.specs.Mounted.{CallsDevice, FinishesDevice}
use Rattle.cut_replay.specs.Rising.{RaisesPages, RaisesMoved, RaisesCommand}

-- the version of a page on a device rises
abbrev Rises : {F : Type 0} → DeviceState F → DeviceState F → PageWrite → Type 0
Rises old new w = current_of old.noted w.page < current_of new.noted w.page

-- if there is such a page
abbrev RisesInside : {F : Type 0} → DeviceState F → DeviceState F → PageWrite → Type 0
RisesInside old new w = w.page < old.config.logical → Rises old new w

-- that of each page of a transaction by the step that writes the last one
step_rises : {F : Type 0} (state : F → FlashState) (old new : DeviceState F) (tag : ℕ) (e : Entry) →
    StepsDevice state old new tag (Ok progress.Done) → entry_of tag old.machine.entries ≡ Some e → e.mark ≡ Plain →
    All (RisesInside old new) e.writes
step_rises state old new tag e h found plain =
    let there = is_there state old in
    let now : entry_of tag (settled there old.machine).entries ≡ Some (settled_entry there e) =
    settled_found there tag e old.machine.entries found in
    let own : plain_writes (settled_entry there e) ≡ e.writes =
    ap (λ (m : Mark). cond (is_plain (settled_mark there m)) e.writes []) plain in
    let taken = done_writes (entry_of tag (settled there old.machine).entries) (Ok progress.Done) in
    let all : taken ≡ e.writes = ap (λ (o : Option Entry). done_writes o (Ok progress.Done)) now ∙ own in
    let rise : All (Rises old new) taken = all_right (Rises old new) (settled_writes there old.machine) taken
    h.rises.rises in
    All-weaker (Rises old new) (RisesInside old new) (λ w higher inside. higher) e.writes
    (subst (λ (ws : List PageWrite). All (Rises old new) ws) all rise)

-- and so by a step more before
rises_before : {F : Type 0} (old mid new : DeviceState F) → mid.config ≡ old.config → VersionsTell old mid →
    (w : PageWrite) → RisesInside mid new w → RisesInside old new w
rises_before old mid new same tell w rises inside =
    let more = rises (subst (λ (c : Config). w.page < c.logical) (sym same) inside) in
    elim (tell w.page inside) [
      | inl rose ↦ omega (arith, rose, more)
      | inr stays ↦ (let still = stays.0 in omega (arith, still, more))
    ]

finish_rises : {F : Type 0} (state : F → FlashState) (old : DeviceState F) (mids : List (DeviceState F))
    (new : DeviceState F) (tag : ℕ) (e : Entry) →
    FinishesDevice state old mids new tag (Ok progress.Done) → entry_of tag old.machine.entries ≡ Some e →
    e.mark ≡ Plain → All (RisesInside old new) e.writes
finish_rises state old [] new tag e h found plain = step_rises state old new tag e h found plain
finish_rises state old (mid ∷ mids) new tag e h found plain =
    let there = is_there state old in
    let first = h.2 in
    let w = found_writes (entry_of tag old.machine.entries) there old.machine mid.machine tag h.0 h.1
    (Ok (progress.Wrote h.0 h.1)) refl refl first.steps in
    let both : Some w.0 ≡ Some e = sym w.1.found ∙ found in
    let same : w.0 ≡ e = cc in
    let wrote : Writes there old.machine mid.machine tag e =
    subst (λ (x : Entry). Writes there old.machine mid.machine tag x) same w.1 in
    let next : Entry = record (settled_entry there e) { done = e.done + 1 } in
    let rest : All (RisesInside mid new) e.writes = finish_rises state mid mids new tag next h.3
    (wrote_found old.machine mid.machine there tag e wrote) (ap (λ (m : Mark). settled_mark there m) plain) in
    All-weaker (RisesInside mid new) (RisesInside old new)
    (rises_before old mid new first.exits.tables.config first.exits.tables.versions) e.writes rest

-- ---- several at once

taken_own : (there : Bool) (e : Entry) → IsAtLast e → e.mark ≡ Plain →
    taken_writes (settled_entry there e) ≡ e.writes
taken_own there e last plain =
    let at : is_at_last e ≡ true = eq-eqb (e.done + 1) (length e.writes) last in
    ap (λ (b : Bool). cond b (plain_writes (settled_entry there e)) []) at
    ∙ ap (λ (m : Mark). cond (is_plain (settled_mark there m)) e.writes []) plain

abbrev RisesAtLast : {F : Type 0} → DeviceState F → DeviceState F → Entry → Type 0
RisesAtLast old new e = IsAtLast e → e.mark ≡ Plain → All (RisesInside old new) e.writes

moved_rise : {F : Type 0} (old new : DeviceState F) (there : Bool) (n : ℕ) (es : List Entry) →
    All (Rises old new) (flat_map taken_writes (take n (map (settled_entry there) es))) →
    All (RisesAtLast old new) (take n es)
moved_rise old new there zero es h = All-nil (RisesAtLast old new)
moved_rise old new there (suc n) [] h = All-nil (RisesAtLast old new)
moved_rise old new there (suc n) (e ∷ es) h =
    let own = taken_writes (settled_entry there e) in
    let rest = flat_map taken_writes (take n (map (settled_entry there) es)) in
    All-cons (RisesAtLast old new) e (take n es)
    (λ last plain. All-weaker (Rises old new) (RisesInside old new) (λ w higher inside. higher) e.writes
    (subst (λ (ws : List PageWrite). All (Rises old new) ws) (taken_own there e last plain)
    (all_left (Rises old new) own rest h)))
    (moved_rise old new there n es (all_right (Rises old new) own rest h))

-- ---- in the image

-- where nothing is unsure, the versions of a device are those of the image
known_version : {F : Type 0} (state : F → FlashState) (protocol : Protocol) (s : DeviceState F) →
    HoldsAlways state protocol s → s.unsure ≡ unsure.Nothing → (page : ℕ) →
    current_in s.config.protocol s.config.logical (state s.flash).image page ≡ current_of s.noted page
unfolding current_in current_of
known_version state protocol s h sure page =
    ap (λ (list : List Found). cur s.config.protocol list s.config.logical page) (h.records sure)
    ∙ ap (λ (c : Config). cur c.protocol (found_in s.noted.notes) c.logical page) (sym h.its)

module _ {F : Type 0} (state : F → FlashState) (protocol : Protocol) (s t : DeviceState F)
    (was : HoldsAlways state protocol s) (is : HoldsAlways state protocol t) (same : t.config ≡ s.config)
    (before : s.unsure ≡ unsure.Nothing)
  where
    abbrev RisesInImage : PageWrite → Type 0
    RisesInImage w =
        w.page < s.config.logical → current_in s.config.protocol s.config.logical (state s.flash).image w.page
        < current_in s.config.protocol s.config.logical (state t.flash).image w.page

    in_image : t.unsure ≡ unsure.Nothing → (w : PageWrite) → RisesInside s t w → RisesInImage w
    in_image after w rises inside =
        let p = s.config.protocol in
        let n = s.config.logical in
        let old = known_version state protocol s was before w.page in
        let new : current_in p n (state t.flash).image w.page ≡ current_of t.noted w.page =
        subst (λ (c : Config). current_in c.protocol c.logical (state t.flash).image w.page ≡ current_of t.noted w.page)
        same (known_version state protocol t is after w.page) in
        let more = rises inside in
        omega (arith, old, new, more)

    all_in_image : t.unsure ≡ unsure.Nothing → (ws : List PageWrite) → All (RisesInside s t) ws → All RisesInImage ws
    all_in_image after ws h = All-weaker (RisesInside s t) RisesInImage (in_image after) ws h

    pages_raised : (o : Option Entry) → t.unsure ≡ unsure.Nothing →
        ((e : Entry) → o ≡ Some e → e.mark ≡ Plain → All (RisesInside s t) e.writes) →
        IfSome o (RaisesPages s.config (moment_of (state s.flash)) (moment_of (state t.flash)))
    pages_raised None after h = tt
    pages_raised (Some e) after h = λ plain. all_in_image after e.writes (h e refl plain)

    moved_raised : (answer : Moved) → MovesDevice state s t answer →
        RaisesMoved s.config s.machine (reply.Moved answer.moved answer.finished) (moment_of (state s.flash))
        (moment_of (state t.flash))
    moved_raised answer h =
        let there = is_there state s in
        let taken = flat_map taken_writes (take answer.moved (map (settled_entry there) s.machine.entries)) in
        All-weaker (RisesAtLast s t)
        (λ (e : Entry). IsAtLast e → RaisesPages s.config (moment_of (state s.flash)) (moment_of (state t.flash)) e)
        (λ e rise last plain. all_in_image h.sure e.writes (rise last plain)) (take answer.moved s.machine.entries)
        (moved_rise s t there answer.moved s.machine.entries
        (all_right (Rises s t) (settled_writes there s.machine) taken h.rises.rises))

    told_done : (tag : ℕ) (result : Result Progress StepError) → reply.Done tag ≡ step_reply tag result →
        result ≡ Ok progress.Done
    told_done tag (Ok (progress.Wrote done all)) h = cc
    told_done tag (Ok progress.Done) h = refl
    told_done tag (Err failed.Unknown) h = cc
    told_done tag (Err failed.Fault) h = cc

    sure_done : (r : Reply) (tag : ℕ) → (is_fault r ≡ false → t.unsure ≡ unsure.Nothing) → r ≡ reply.Done tag →
        t.unsure ≡ unsure.Nothing
    sure_done r tag after done = after (subst (λ (q : Reply). is_fault q ≡ false) (sym done) refl)

    -- so a command that is answered as done raises them in the image
    pub raised : (c : Command) (r : Reply) → (is_fault r ≡ false → t.unsure ≡ unsure.Nothing) →
        CallsDevice state c s t r →
        RaisesCommand s.config c s.machine r (moment_of (state s.flash)) (moment_of (state t.flash))
    raised (command.Step tag) r after h = λ done.
        let told = told_done tag h.0 (sym done ∙ h.2) in
        let step : StepsDevice state s t tag (Ok progress.Done) =
        subst (λ (x : Result Progress StepError). StepsDevice state s t tag x) told h.1 in
        pages_raised (entry_of tag s.machine.entries) (sure_done r tag after done)
        (λ e found plain. step_rises state s t tag e step found plain)
    raised (command.Finish tag) r after h = λ done.
        let told = told_done tag h.1 (sym done ∙ h.3) in
        let steps : FinishesDevice state s h.0 t tag (Ok progress.Done) =
        subst (λ (x : Result Progress StepError). FinishesDevice state s h.0 t tag x) told h.2 in
        pages_raised (entry_of tag s.machine.entries) (sure_done r tag after done)
        (λ e found plain. finish_rises state s h.0 t tag e steps found plain)
    raised command.StepAll r after h =
        subst (λ (q : Reply). RaisesMoved s.config s.machine q (moment_of (state s.flash)) (moment_of (state t.flash)))
        (sym h.2) (moved_raised h.0 h.1)
    raised _ r after h = tt
