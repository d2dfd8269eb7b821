-- What serving gives, as a run from an image on.
use Rattle.desk_tasks.proofs.Common.{◌≡◌, ℕ, false, List, [], length, take, None, Some, refl, sym, ap, ◌∙◌, subst, Config, shape_of, Protocol, Contents, MemFlashState, loaded, state_of, IsSoundImage, records_in, Err, RefusesDevice}
use Rattle.std.proofs.Common.{◌⊎◌, inl, inr, Bool, true, ◌++◌, Option}
use Rattle.std.specs.Prelude.{IsSomeAnd, MatchBool}
use Rattle.list_lemmas.proofs.Lists.{take_whole}
use Rattle.flash_model.proofs.CallLemmas.{steady_unbroken}
use Rattle.flash_model.specs.Calls.{BothTell, Carries}
use Rattle.flash_model.specs.Coming.{Waits, ReadWaits, ComesTo}
use Rattle.flash_model.specs.Flash.{FlashState, IsSteady, Told}
use Rattle.flash_model.specs.Operations.{moment_of}
use Rattle.flash_model.proofs.MoveLemmas.{same_moments}
use Rattle.mem_flash.specs.MemFlashState.{told_of}
use Rattle.record_list.specs.declared.found.Found.{Found}
use Rattle.verdict_report.specs.Report.{report}
use Rattle.host_protocol.specs.declared.command.Command.{Command}
use Rattle.cut_replay.specs.FlashCalls.{BeginsFlash, MountsFlash}
use Rattle.cut_replay.specs.FlashRun.{IsFlashRun, last_moment, first_point, mentions_in}
use Rattle.cut_replay.specs.Served.{RefusesUnsound, ServesRun, Watched}
use Rattle.cut_replay.specs.declared.serving.ServeError.{ServeError}
use Rattle.cut_replay.specs.declared.serving.ServeError.TheVariants as failed
use Rattle.cut_replay.specs.Watching.{text_of_all}
use Rattle.page_keys.specs.KeyRuns.{OpensFlash}
use Rattle.page_keys.specs.KeyServed as key_first
use Rattle.array_runs.specs.Breaks.{AreFew}
use Rattle.cut_replay.proofs.Runs.{run_lengths}
use Rattle.cut_replay.proofs.Totals.{run_last, run_spends, run_up}
use Rattle.desk_tasks.specs.Runs.{IsRun, IsUnarmed, first_moment}
use Rattle.desk_tasks.specs.Stops.{StopsBy, serving_failure}
use Rattle.desk_tasks.specs.declared.output.Failure.{Failure}

-- a flash that was just loaded breaks only where it is armed
pub is_steady : (its : Config) (flash : MemFlashState) → flash ≡ loaded (shape_of its) flash.image flash.extras →
    IsSteady (state_of flash)
is_steady its flash e = record {
  live = ap (λ s. s.live) e;
  none = let none = ap (λ (s : MemFlashState). s.armed) e in
      subst (λ armed. ((told_of armed).cuts ≡ 0) × ((told_of armed).breaks ≡ 0)) (sym none) (refl, refl);
}

pub starts : (its : Config) (flash : MemFlashState) → flash ≡ loaded (shape_of its) flash.image flash.extras →
    moment_of (state_of flash) ≡ first_moment flash.image
starts its flash e =
    same_moments (moment_of (state_of flash)) (first_moment flash.image) refl (ap (λ (s : MemFlashState). s.programs) e)
    (ap (λ (s : MemFlashState). s.erases) e) (ap (λ (s : MemFlashState). s.started) e)

-- it has no arm, and gets none where it is mounted
abbrev HasNoArm : Told → Type 0
HasNoArm told = (told.cut ≡ None) × (told.fault ≡ None) × (told.bad_read ≡ None)

none_comes : (live : Bool) (n m : ℕ) (a b : Option Told) → IsSomeAnd a HasNoArm →
    BothTell (ComesTo false live n m) a b → IsSomeAnd b HasNoArm
none_comes live n m None b none both = absurd none
none_comes live n m (Some x) None none both = absurd both
none_comes live n m (Some x) (Some y) none both = (
  subst (λ o. Waits n o y.cut) none.0 both.0,
  subst (λ o. Waits n o y.fault) none.1 both.1,
  subst (λ o. ReadWaits m o y.bad_read) none.2 both.2,
)

stays_unarmed : (old new : FlashState) → Carries old new false → old.live ≡ true → IsUnarmed old → IsUnarmed new
stays_unarmed old new carries on h =
    let starts = carries.starts on in
    record {
      faults = carries.quiet ∙ h.faults;
      arms = none_comes new.live starts.0 starts.1 old.told new.told h.arms starts.4;
    }

mounted_unarmed : (its : Config) (up : Bool) (old new : FlashState) → MountsFlash its up old new → IsSteady old →
    IsUnarmed old → IsUnarmed new
mounted_unarmed its true old new mount steady h =
    let on : FlashState = record old { live = true } in
    stays_unarmed on new mount.carries refl (record { faults = h.faults; arms = h.arms })
mounted_unarmed its false old new mount steady h =
    let on : FlashState = record old { live = true } in
    absurd (steady_unbroken on new (record { live = refl; none = steady.none }) mount.carries)

was_unarmed : (its : Config) (flash : MemFlashState) → flash ≡ loaded (shape_of its) flash.image flash.extras →
    IsUnarmed (state_of flash)
was_unarmed its flash e = record {
  faults = ap (λ (s : MemFlashState). s.faults) e;
  arms = (
    ap (λ (s : MemFlashState). s.armed.cut) e,
    ap (λ (s : MemFlashState). s.armed.fault) e,
    ap (λ (s : MemFlashState). s.armed.bad_read) e,
  );
}

first_unarmed : (its : Config) (flash : MemFlashState) (first : FlashState) (up : Bool) →
    flash ≡ loaded (shape_of its) flash.image flash.extras →
    BeginsFlash its (state_of flash) up first → IsUnarmed first
first_unarmed its flash first up e begins =
    let steady = is_steady its flash e in
    mounted_unarmed its up (state_of flash) first
    (subst (λ b. MatchBool b (MountsFlash its up (state_of flash) first)
    ((up ≡ false) × (first ≡ state_of flash))) steady.live begins) steady (was_unarmed its flash e)

-- the store of such a flash is opened, and no arm comes of it
opened_unarmed : (its : Config) (up : Bool) (old new : FlashState) → OpensFlash its up old new → IsSteady old →
    IsUnarmed old → (up ≡ true) × IsUnarmed new
opened_unarmed its true old new opens steady h =
    let on : FlashState = record old { live = true } in
    (refl, stays_unarmed on new opens.carries refl (record { faults = h.faults; arms = h.arms }))
opened_unarmed its false old new opens steady h =
    let on : FlashState = record old { live = true } in
    absurd (steady_unbroken on new (record { live = refl; none = steady.none }) opens.carries)

pub keys_unarmed : (its : Config) (flash : MemFlashState) (first : FlashState) (up : Bool) →
    flash ≡ loaded (shape_of its) flash.image flash.extras → key_first.BeginsFlash its (state_of flash) up first →
    (up ≡ true) × IsUnarmed first
keys_unarmed its flash first up e begins =
    let steady = is_steady its flash e in
    opened_unarmed its up (state_of flash) first
    (subst (λ b. MatchBool b (OpensFlash its up (state_of flash) first)
    ((up ≡ false) × (first ≡ state_of flash))) steady.live begins) steady (was_unarmed its flash e)

-- what serving such a flash gives
pub is_run : (its : Config) (flash left : MemFlashState) (cs : List Command) (before after : List ℕ) →
    flash ≡ loaded (shape_of its) flash.image flash.extras → before ≡ [] →
    IsSoundImage its.protocol its.logical (shape_of its) flash.image →
    ServesRun its cs (length cs) (state_of flash) (state_of left) (record { text = Some before; kept = None; flashes = None })
    (record { text = Some after; kept = None; flashes = None }) →
    IsRun its flash.image cs left.image after
is_run its flash left cs before after e none is_sound served =
    let start = starts its flash e in
    let told_before : Watched = record { text = Some before; kept = None; flashes = None } in
    let told_after : Watched = record { text = Some after; kept = None; flashes = None } in
    let told : after ≡ before ++ text_of_all (take (length cs) served.replies) = cc (served.text) in
    let whole = take_whole (length cs) served.replies
    (run_lengths its (mentions_in its (moment_of (state_of flash))) false
    (first_point its served.run.up served.run.flash) cs served.replies served.points served.run.runs).0 in
    let from = subst (λ m. (run : IsFlashRun its m cs served.replies served.points)
    × (run.up ≡ true) × IsUnarmed run.flash) start (
      served.run,
      run_up its cs (length cs) (state_of flash) (state_of left) told_before told_after served (is_steady its flash e),
      first_unarmed its flash served.run.flash served.run.up e served.begins,
    ) in
    record {
      sound = is_sound;
      replies = served.replies;
      points = served.points;
      run = from.0;
      up = from.1;
      unarmed = from.2;
      last = ap (λ m. m.image) (run_last its cs (length cs) (state_of flash) (state_of left) told_before told_after
          served ∙ ap (λ m. last_moment m served.points) start);
      said = rw (none, whole) at told;
      few = subst (λ armed. AreFew (told_of armed).cuts (told_of armed).breaks cs served.replies)
          (ap (λ (s : MemFlashState). s.armed) e)
          (run_spends its cs (length cs) (state_of flash) (state_of left) told_before told_after served).few;
    }

-- why it was not all done
pub unserved : (its : Config) (flash left : MemFlashState) (e : ServeError) (stopped : Failure) →
    stopped ≡ serving_failure e → RefusesUnsound its (state_of flash) (state_of left) (Err e) →
    StopsBy (RefusesDevice its flash.image) stopped
unserved its flash left (failed.Unsound law slot) stopped same h =
    rw same (record { law = law; slot = slot }, h.1, refl)
unserved its flash left failed.Memory stopped same h = rw same tt

-- the report on the list of the records of an image, under the rule of its protocol
pub report_said : (said : List ℕ) (kept protocol : Protocol) (list : List Found) (image : List Contents) (logical : ℕ) →
    list ≡ records_in protocol image → protocol ≡ kept → said ≡ report kept list logical →
    said ≡ report protocol (records_in protocol image) logical
report_said said kept protocol list image logical is rule h = h ∙ rw (is, ← rule) refl
