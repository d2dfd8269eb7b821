-- What a command does on a mounted device, before it is asked whether power was cut in it.
use Rattle.std.specs.Prelude.{◌≡◌, ◌<◌, ◌≤◌, ℕ, ◌⊎◌, Bool, true, false, not, ◌&&◌, nat_lt, List, [], ◌∷◌, length, All, Result, Ok, Err}
use Rattle.std.specs.Prelude.{Some, is_some, MatchBool, if◌then◌else◌}
use Rattle.tx_types.specs.declared.memory.Memory.{Memory}
use Rattle.tx_types.specs.declared.stats.Stats.{Stats}
use Rattle.flash_model.specs.Flash.{FlashState, counted}
use Rattle.flash_model.specs.Calls.{Carries}
use Rattle.flash_model.specs.Operations.{moment_of}
use Rattle.judged_records.specs.Images.{array_in}
use Rattle.judged_records.specs.IndexState.{current_of}
use Rattle.judged_records.specs.Notes.{found_in}
use Rattle.verdict_report.specs.Report.{report}
use Rattle.collector.specs.declared.unsure.Unsure.TheVariants as unsure
use Rattle.page_cache.specs.PageCacheState.{CachedPage, PageCacheState, cached_page, promoted, kept}
use Rattle.tx_engine.specs.Always.{IsSeen}
use Rattle.array_machine.specs.ArrayState.{page_at, idle}
use Rattle.tx_engine.specs.Exits.{VersionsTell}
use Rattle.tx_engine.specs.Naming.{is_spent}
use Rattle.tx_engine.specs.Read.{ReadsFlash, read_place}
use Rattle.tx_engine.specs.DeviceState.{DeviceState, limits_of}
use Rattle.tx_engine.specs.Batches.{MovesDevice}
use Rattle.tx_engine.specs.DeviceCalls.{AbortsDevice, CollectsDevice, StepsDevice, SubmitsDevice, TellsDevice}
use Rattle.array_machine.specs.declared.answers.Aborted.{Aborted}
use Rattle.array_machine.specs.declared.answers.Collected.{Collected}
use Rattle.array_machine.specs.declared.answers.Fault.{Fault}
use Rattle.array_machine.specs.declared.answers.Moved.{Moved}
use Rattle.array_machine.specs.declared.answers.Progress.{Progress}
use Rattle.array_machine.specs.declared.answers.Progress.TheVariants as progress
use Rattle.array_machine.specs.declared.answers.StepError.{StepError}
use Rattle.array_machine.specs.declared.answers.SubmitError.{SubmitError}
use Rattle.array_machine.specs.declared.answers.ReadAnswer.{ReadAnswer}
use Rattle.array_machine.specs.declared.answers.ReadAnswer.TheVariants as answer
use Rattle.array_machine.specs.declared.answers.ReadError.{ReadError}
use Rattle.host_protocol.specs.declared.command.Command.{Command}
use Rattle.host_protocol.specs.declared.command.Command.TheVariants as command
use Rattle.host_protocol.specs.declared.reply.Reply.{Reply}
use Rattle.host_protocol.specs.declared.reply.Reply.TheVariants as reply
use Rattle.array_runs.specs.Run.{DoesCommand, MayBeCut, CutLeavesOf, seen_after, submit_reply, step_reply, abort_reply, moved_reply, collect_reply}
use Rattle.cut_replay.specs.Costs.{CostsCommand, CostsStep}
use Rattle.cut_replay.specs.FlashRun.{KnowsSpent, Point, MovesBy, Tells}
use Rattle.array_runs.specs.Breaks.{is_fault, is_lost}

-- several transactions go on at once
abbrev pub is_step_all : Command → Bool
is_step_all command.StepAll = true
is_step_all _ = false

-- the point of a run at which a device is mounted
abbrev pub point_at : {F : Type 0} → (F → FlashState) → DeviceState F → Point
point_at state s =
    record { state = record { machine = s.machine; up = true }; flash = state s.flash }

-- a cached page is at its current version at most, and where it is at that, its bytes are those of
-- the array
pub record IsCachedAs {F : Type 0} (s : DeviceState F) (e : CachedPage) : Type 0 where
  pub exists : e.page < s.config.logical
  pub least : e.version ≤ current_of s.noted e.page
  pub current : e.version ≡ current_of s.noted e.page →
      page_at s.machine.pages e.page ≡ Some e.bytes

abbrev pub IsCached : {F : Type 0} → DeviceState F → List CachedPage → Type 0
IsCached s entries = All (IsCachedAs s) entries

-- what a power cut leaves, if the call met one
pub record MayHaveCut {F : Type 0} (state : F → FlashState) (c : Command)
    (old new : DeviceState F) : Type 0 where
  pub may : MayBeCut old.machine.pages c
  pub leaves : CutLeavesOf c old.machine
      (idle (array_in new.config.protocol new.config.logical (state new.flash).image))

-- Steps of one transaction on a device, through these devices, up to the first answer that is no `Wrote`.
abbrev pub FinishesDevice : {F : Type 0} → (F → FlashState) → DeviceState F → List (DeviceState F) → DeviceState F → ℕ →
    Result Progress StepError → Type 0
FinishesDevice state old [] new tag (Ok (progress.Wrote done all)) = ⊥
FinishesDevice state old [] new tag (Ok progress.Done) = StepsDevice state old new tag (Ok progress.Done)
FinishesDevice state old [] new tag (Err e) = StepsDevice state old new tag (Err e)
FinishesDevice state old (mid ∷ mids) new tag result =
    (done : ℕ) × (all : ℕ) × StepsDevice state old mid tag (Ok (progress.Wrote done all))
    × FinishesDevice state mid mids new tag result

-- only the flash of a device changed
abbrev pub ChangesFlash : {F : Type 0} → DeviceState F → DeviceState F → Type 0
ChangesFlash old new = new ≡ record old { flash = new.flash }

-- What the device's own call says of a command, and the reply of its answer. A `finish` is steps. A read, which the
-- cache may answer, and an arm change the flash alone.
abbrev pub CallsDevice : {F : Type 0} → (F → FlashState) → Command → DeviceState F → DeviceState F → Reply → Type 0
CallsDevice state (command.Read page) old new r = ChangesFlash old new
CallsDevice state (command.Write tag batch) old new r =
    (answer : Result (Unit {0}) SubmitError) × SubmitsDevice old new tag batch.entries answer
    × (r ≡ submit_reply tag (length batch.entries) answer)
CallsDevice state (command.Step tag) old new r =
    (answer : Result Progress StepError) × StepsDevice state old new tag answer × (r ≡ step_reply tag answer)
CallsDevice {F = F} state (command.Finish tag) old new r =
    (mids : List (DeviceState F)) × (answer : Result Progress StepError)
    × FinishesDevice state old mids new tag answer × (r ≡ step_reply tag answer)
CallsDevice state (command.Abort tag) old new r =
    (answer : Result Aborted StepError) × AbortsDevice state old new tag answer × (r ≡ abort_reply tag answer)
CallsDevice state command.StepAll old new r =
    (answer : Moved) × MovesDevice state old new answer × (r ≡ moved_reply answer)
CallsDevice state command.Collect old new r =
    (answer : Result Collected Fault) × CollectsDevice state old new answer × (r ≡ collect_reply answer)
CallsDevice state command.Stats old new r =
    (told : Stats) × TellsDevice state old told × (r ≡ reply.Stats told) × (new ≡ old)
CallsDevice state command.Explain old new r =
    (r ≡ reply.Report (report old.config.protocol (found_in old.noted.notes) old.config.logical)) × (new ≡ old)
CallsDevice state (command.Cut count what) old new r = ChangesFlash old new
CallsDevice state (command.Fault count what) old new r = ChangesFlash old new
CallsDevice state (command.BadRead count) old new r = ChangesFlash old new

-- A command was done on a device, with this reply unless power was cut.
pub record ServesHere {F : Type 0}
    (state : F → FlashState) (c : Command) (old new : DeviceState F) (r : Reply) : Type 0 where
  pub config : new.config ≡ old.config
  pub does : DoesCommand (limits_of old.config)
      (is_spent old.noted.mentions) c old.machine r new.machine
  pub moves : MovesBy old.config c r (moment_of (state old.flash)) (moment_of (state new.flash))
  pub costs : CostsCommand old.config c old.machine r (moment_of (state old.flash)) (moment_of (state new.flash))
  pub direct : old.unsure ≡ unsure.Nothing →
      CostsStep old.config c old.machine (moment_of (state old.flash)) (moment_of (state new.flash))
  pub carries : Carries (state old.flash) (state new.flash) (is_fault r)
  pub tells : (faulted : Bool) → (faulted ≡ false → old.unsure ≡ unsure.Nothing) →
      Tells old.config faulted (point_at state old) r (point_at state new)
  pub knows : KnowsSpent old.config (is_spent old.noted.mentions) c old.machine (moment_of (state old.flash))
  pub sure : old.unsure ≡ unsure.Nothing → is_fault r ≡ false → new.unsure ≡ unsure.Nothing
  pub seen : (seen : ℕ → ℕ) → IsSeen seen old → IsSeen (seen_after seen c r) new
  pub versions : VersionsTell old new
  pub cut : is_fault r ≡ true → MayHaveCut state c old new
  pub device : CallsDevice state c old new r
  pub whole : is_lost r ≡ false

-- whether a page is held in the cache at its current version
abbrev pub is_cached : {F : Type 0} → DeviceState F → List CachedPage → ℕ → Bool
is_cached s entries page =
    nat_lt page s.config.logical && is_some (cached_page page (current_of s.noted page) entries)

-- A read of a page that is held is answered, and leaves the device and its flash; any other is a
-- read of the device.
abbrev pub ReadsThrough : {F : Type 0} → (F → FlashState) → DeviceState F → DeviceState F →
    List CachedPage → ℕ →
    List ℕ → List ℕ → Result ReadAnswer ReadError → Type 0
ReadsThrough state old new entries page before after result =
    MatchBool (is_cached old entries page) ((new ≡ old) × (result ≡ Ok answer.Page))
    (ReadsFlash state
    (read_place old.noted old.unsure page) old.flash new.flash before after result)

-- the entry of a page at its current version comes to the front
abbrev pub brought_forward : {F : Type 0} → DeviceState F → ℕ → PageCacheState → PageCacheState
brought_forward s page cache =
    record cache { entries = promoted page (current_of s.noted page) cache.entries }

-- these bytes of a page come in front, under its current version
abbrev pub with_page : {F : Type 0} → DeviceState F → ℕ → List ℕ → PageCacheState → PageCacheState
with_page s page bytes cache =
    record cache { entries = kept page (current_of s.noted page) bytes cache.entries }

-- a page is kept, unless memory ran out
abbrev pub KeepsPage : {F : Type 0} → DeviceState F → PageCacheState → PageCacheState → ℕ → List ℕ →
    Result (Unit {0}) Memory → Type 0
KeepsPage s before after page bytes (Ok u) = after ≡ with_page s page bytes before
KeepsPage s before after page bytes (Err e) = after ≡ before

-- What a read leaves in the cache: a page that was held comes to the front; a page that was read is
-- kept, unless memory ran out.
abbrev pub CachesRead : {F : Type 0} → DeviceState F → PageCacheState → PageCacheState → ℕ → List ℕ →
    Result ReadAnswer ReadError → Result (Unit {0}) Memory → Type 0
CachesRead s before after page bytes (Ok answer.Page) memory =
    MatchBool (is_cached s before.entries page) (after ≡ brought_forward s page before)
    (KeepsPage s before after page bytes memory)
CachesRead s before after page bytes _ memory = after ≡ before

-- a page that was written and is not held takes a read of the flash
abbrev pub takes_read : {F : Type 0} → DeviceState F → List CachedPage → ℕ → Bool
takes_read s entries page =
    nat_lt page s.config.logical && is_some (page_at s.machine.pages page)
    && not (is_cached s entries page)

-- on a live flash a read of a page that takes one is one read, and any other is none
abbrev pub ReadsPageOnce : {F : Type 0} → (F → FlashState) → DeviceState F → DeviceState F → List CachedPage →
    ℕ → Type 0
ReadsPageOnce state old new entries page =
    (state old.flash).live ≡ true → (state new.flash).reads ≡
    (if takes_read old entries page then counted (state old.flash).reads
    else (state old.flash).reads)

-- a page that is held comes to the front; of another one the bytes of the array are kept, or
-- nothing changes
abbrev pub CachesPage : {F : Type 0} → DeviceState F → PageCacheState → PageCacheState → ℕ → Type 0
CachesPage s before after page =
    MatchBool (is_cached s before.entries page) (after ≡ brought_forward s page before)
    (((bytes : List ℕ) × (page_at s.machine.pages page ≡ Some bytes)
    × (after ≡ with_page s page bytes before))
    ⊎ (after ≡ before))

-- what a command does to the cache, and a read to the count of reads; only a read changes the cache
abbrev pub CachesCommand : {F : Type 0} → (F → FlashState) → Command → DeviceState F → DeviceState F →
    PageCacheState → PageCacheState → Type 0
CachesCommand state (command.Read page) old new before after =
    ReadsPageOnce state old new before.entries page × CachesPage old before after page
CachesCommand state _ old new before after = after ≡ before
