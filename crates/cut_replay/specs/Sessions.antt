-- What serving a command comes to, in a session with its device while that is mounted.
use Rattle.std.specs.Prelude.{◌≡◌, ◌⊎◌, ◌<◌, ◌≤◌, ℕ, Bool, true, false, ◌||◌, List, [], IfOk, IfErr, OnOk, Result, Ok, Err}
use Rattle.std.specs.Prelude.{MatchBool}
use Rattle.tx_types.specs.declared.config.Config.{Config}
use Rattle.tx_types.specs.declared.config.Protocol.{Protocol}
use Rattle.tx_types.specs.declared.config.Slot.{Slot}
use Rattle.tx_types.specs.Config.{checked, shape_of}
use Rattle.flash_model.specs.Flash.{FlashState, Told}
use Rattle.flash_model.specs.Arms.{ChangesTold}
use Rattle.flash_model.specs.Calls.{BothTell, Carries, Rose, Spends}
use Rattle.flash_model.specs.Operations.{moment_of}
use Rattle.record_list.specs.Records.{mention}
use Rattle.judged_records.specs.Images.{IsSoundImage, IsLeastImageBreach, records_in}
use Rattle.collector.specs.declared.unsure.Unsure.TheVariants as unsure
use Rattle.mounted_session.specs.Devices.{MountsIn, ReadsFew}
use Rattle.mounted_session.specs.Mounting.{MomentStays, StaysQuiet, powered}
use Rattle.mounted_session.specs.Sessions as sessions
use Rattle.mounted_session.specs.Sessions.{BothOf, EachOf}
use Rattle.mounted_session.specs.declared.device.Refusal.{Refusal}
use Rattle.mounted_session.specs.declared.device.Refusal.TheVariants as refusal
use Rattle.mounted_session.specs.declared.session.Session.{Session}
use Rattle.mounted_session.specs.declared.session.Session.TheVariants as session
use Rattle.page_cache.specs.PageCacheState.{PageCacheState, CachedPage}
use Rattle.tx_engine.specs.DeviceState.{DeviceState}
use Rattle.host_protocol.specs.declared.command.Command.{Command}
use Rattle.host_protocol.specs.declared.reply.Reply.{Reply}
use Rattle.host_protocol.specs.declared.reply.Reply.TheVariants as reply
use Rattle.array_runs.specs.Run.{MayBeSpent, is_arm, seen_after}
use Rattle.cut_replay.specs.FlashRun.{Point, IsPoint, ServesFlash, first_point}
use Rattle.cut_replay.specs.EndsLost.{EndsLost}
use Rattle.array_runs.specs.Breaks.{is_fault, is_lost}
use Rattle.cut_replay.specs.Bounds.{CountsBreak}
use Rattle.tx_engine.specs.Always.{IsSeen, HoldsAlways}
use Rattle.cut_replay.specs.Mounted.{point_at, IsCached, CachesCommand, CallsDevice}
use Rattle.cut_replay.specs.UnmountedRun.{ServesUnmounted}
use Rattle.cut_replay.specs.declared.serving.ServeError.{ServeError}
use Rattle.cut_replay.specs.declared.serving.ServeError.TheVariants as failed

-- a flash on which commands are served
abbrev pub DeviceSession : Type 0 → Type 0
DeviceSession F = Session F (DeviceState F)

-- the flash of a session
abbrev pub flash_in : {F : Type 0} → DeviceSession F → F
flash_in s = sessions.flash_in (λ d. d.flash) s

-- the device that it has is not dropped
abbrev pub IsNotDropped : {F : Type 0} → DeviceSession F → Type 0
IsNotDropped s = EachOf (λ d. d.dropped ≡ false) (λ flash. Unit {0}) s

-- the point of a run that a session is at
abbrev pub point_of : {F : Type 0} → (F → FlashState) → Config → DeviceSession F → Point
point_of state its (session.Mounted s) = point_at state s
point_of state its (session.Unmounted flash) = first_point its false (state flash)

-- the image of a flash is sound
abbrev pub IsSoundFlash : Config → FlashState → Type 0
IsSoundFlash its s = IsSoundImage its.protocol its.logical (shape_of its) s.image

-- a mounted device is live, with what holds of it at every moment, and the cache holds nothing that
-- is out of date
pub record FitsMounted {F : Type 0}
    (state : F → FlashState) (its : Config) (cache : List CachedPage)
    (s : DeviceState F) : Type 0 where
  pub config : s.config ≡ its
  pub check : checked its ≡ Ok (state s.flash).shape
  pub live : (state s.flash).live ≡ true
  pub cached : IsCached s cache
  pub always : HoldsAlways state its.protocol s

-- the session is one on a flash of this configuration
abbrev pub Fits : {F : Type 0} → (F → FlashState) → Config → List CachedPage → DeviceSession F →
    Type 0
Fits state its cache s = EachOf (FitsMounted state its cache) (λ flash. checked its ≡ Ok (state flash).shape) s

-- `seen` is at least each mention, and nothing is unsure where no fault was met
pub record StandsMounted {F : Type 0} (seen : ℕ → ℕ) (faulted : Bool)
    (s : DeviceState F) : Type 0 where
  pub sure : faulted ≡ false → s.unsure ≡ unsure.Nothing
  pub mentions : IsSeen seen s

pub record StandsUnmounted (its : Config) (seen : ℕ → ℕ) (flash : FlashState) : Type 0 where
  pub sound : IsSoundFlash its flash
  pub mentions : (page : ℕ) → page < its.logical →
      mention (records_in its.protocol flash.image) page ≤ seen page

abbrev pub StandsAt : {F : Type 0} → (F → FlashState) → Config → (ℕ → ℕ) → Bool → DeviceSession F →
    Type 0
StandsAt state its seen faulted s =
    EachOf (StandsMounted seen faulted) (λ flash. StandsUnmounted its seen (state flash)) s

-- A command was served in a session, with this reply.
pub record ServesIn {F : Type 0}
    (state : F → FlashState) (its : Config) (seen : ℕ → ℕ) (faulted : Bool)
    (c : Command) (old : DeviceSession F) (r : Reply) (new : DeviceSession F) : Type 0 where
  pub spent : ℕ → Bool
  pub may : MayBeSpent seen spent
  pub serves : ServesFlash its spent faulted c (point_of state its old) r (point_of state its new)
  pub point : IsPoint its (point_of state its new)
  pub stands : StandsAt state its (seen_after seen c r) (faulted || is_fault r) new

-- the image was sound and is sound, or nothing was written: the moment is the same
abbrev pub IsSoundOrSame : Config → FlashState → FlashState → Type 0
IsSoundOrSame its old new =
    (IsSoundFlash its old × IsSoundFlash its new) ⊎ (moment_of new ≡ moment_of old)

-- On a device that is mounted still, with nothing lost that was open, a command did what the device's own call says.
abbrev pub CallsServed : {F : Type 0} → (F → FlashState) → Command → DeviceState F → Reply → DeviceSession F → Type 0
CallsServed state c s r (session.Mounted t) = MatchBool (is_lost r) (Unit {0}) (CallsDevice state c s t r)
CallsServed state c s r (session.Unmounted flash) = Unit {0}

-- So it did on the device of the session, and where there was none on the device that it mounted first.
abbrev pub CallsSession : {F : Type 0} → (F → FlashState) → Config → Command → DeviceSession F → Reply →
    DeviceSession F → Type 0
CallsSession state its c (session.Mounted s) r new = CallsServed state c s r new
CallsSession {F = F} state its c (session.Unmounted flash) r (session.Mounted t) =
    (s : DeviceState F) × MountsIn state its flash s × CallsServed state c s r (session.Mounted t)
CallsSession state its c (session.Unmounted flash) r (session.Unmounted new) = Unit {0}

-- What serving a command comes to, whatever the image is.
pub record ServesSession {F : Type 0}
    (state : F → FlashState) (its : Config)
    (c : Command) (old : DeviceSession F) (r : Reply) (new : DeviceSession F) : Type 0 where
  pub in_run : (seen : ℕ → ℕ) → (faulted : Bool) → StandsAt state its seen faulted old →
      ServesIn state its seen faulted c old r new
  pub device : CallsSession state its c old r new
  pub kept : IsSoundOrSame its (state (flash_in old)) (state (flash_in new))
  pub unsound : (IsSoundFlash its (state (flash_in old)) → ⊥) →
      ServesUnmounted its c (state (flash_in old)) r (state (flash_in new))
  pub faults : CountsBreak r (state (flash_in old)).faults (state (flash_in new)).faults
  pub extras : (state (flash_in new)).extras ≡ (state (flash_in old)).extras

-- The flash was refused: it was never mounted, and its image is not sound.
abbrev pub Refuses : {F : Type 0} → (F → FlashState) → Config → DeviceSession F → F → ℕ → Slot →
    Type 0
Refuses state its (session.Mounted s) flash law slot = ⊥
Refuses state its (session.Unmounted old) flash law slot =
    StaysQuiet (state old) (state flash)
    × IsLeastImageBreach its.protocol its.logical (shape_of its) (state old).image
    (record { law = law; slot = slot })

-- there was no memory before the command did anything, or in the mount after what was open was lost in it
abbrev pub EndsForMemory : {F : Type 0} → (F → FlashState) → Config → Command → DeviceSession F → F →
    Type 0
EndsForMemory state its c old flash =
    StaysQuiet (state (flash_in old)) (state flash)
    ⊎ EndsLost its c (point_of state its old) (state flash)

-- Why no more commands are served.
abbrev pub EndsFor : {F : Type 0} → (F → FlashState) → Config → Command → DeviceSession F → F →
    ServeError → Type 0
EndsFor state its c old flash (failed.Unsound law slot) = Refuses state its old flash law slot
EndsFor state its c old flash failed.Memory = EndsForMemory state its c old flash

-- and what the flash is that comes back
pub record EndsServing {F : Type 0}
    (state : F → FlashState) (its : Config)
    (c : Command) (old : DeviceSession F) (flash : F) (why : ServeError) : Type 0 where
  pub cause : EndsFor state its c old flash why
  pub shape : (state flash).shape ≡ (state (flash_in old)).shape
  pub extras : (state flash).extras ≡ (state (flash_in old)).extras
  pub kept : IsSoundOrSame its (state (flash_in old)) (state flash)

-- a read met a fault in a mount, which read no more than a mount does, and started nothing
pub record MeetsOne (its : Config) (old new : FlashState) : Type 0 where
  pub still : MomentStays old new
  pub rose : Rose old.faults new.faults
  pub spends : BothTell (Spends new.live) old.told new.told
  pub carries : Carries (powered old) new true
  pub few : ReadsFew its old new

-- What mounting a flash comes to: its device, or a fault that a read met.
abbrev pub Mounted : {F : Type 0} → (F → FlashState) → Config → F → DeviceSession F → Type 0
Mounted state its flash s = EachOf (MountsIn state its flash) (λ new. MeetsOne its (state flash) (state new)) s

-- why no more commands are served where a flash is refused
abbrev pub serve_error : Refusal → ServeError
serve_error (refusal.Unsound law slot) = failed.Unsound law slot
serve_error refusal.Memory = failed.Memory

-- and why no device was mounted
abbrev pub Unmounted : {F : Type 0} → (F → FlashState) → Config → F → F → ServeError → Type 0
Unmounted state its flash new (failed.Unsound law slot) =
    StaysQuiet (state flash) (state new)
    × IsLeastImageBreach its.protocol its.logical (shape_of its) (state flash).image
    (record { law = law; slot = slot })
Unmounted state its flash new failed.Memory = StaysQuiet (state flash) (state new)

-- What a command that is no arm does to the cache: on a device that is mounted still, without a
-- cut or a drop, what it does there; and else nothing is held.
abbrev pub CachesServed : {F : Type 0} → (F → FlashState) → Command → DeviceState F → Reply →
    DeviceSession F → PageCacheState → PageCacheState → Type 0
CachesServed state c s r (session.Mounted t) before after =
    MatchBool (is_lost r) (after ≡ record before { entries = [] })
    (CachesCommand state c s t before after)
CachesServed state c s r (session.Unmounted flash) before after =
    after ≡ record before { entries = [] }

-- and where the device is mounted first: it begins with an empty cache
abbrev pub CachesFrom : {F : Type 0} → (F → FlashState) → Config → Command → DeviceSession F → Reply →
    DeviceSession F → PageCacheState → PageCacheState → Type 0
CachesFrom state its c (session.Mounted s) r new before after =
    CachesServed state c s r new before after
CachesFrom {F = F} state its c (session.Unmounted flash) r (session.Mounted t) before
    after =
    (s : DeviceState F) × MountsIn state its flash s
    × CachesServed state c s r (session.Mounted t) (record before { entries = [] }) after
CachesFrom state its c (session.Unmounted flash) r (session.Unmounted new) before after =
    after ≡ record before { entries = [] }

-- what a command does to the cache; an arm does nothing
abbrev pub CachesSession : {F : Type 0} → (F → FlashState) → Config → Command → DeviceSession F →
    Reply → DeviceSession F → PageCacheState → PageCacheState → Type 0
CachesSession state its c old r new before after =
    MatchBool (is_arm c) (after ≡ before) (CachesFrom state its c old r new before after)

-- an arm of the flash is set, and all else of the session stays
pub record SetsArmHere {F : Type 0}
    (state : F → FlashState) (protocol : Protocol) (sets : Told → Told → Type 0)
    (old new : DeviceState F) : Type 0 where
  pub stays : new ≡ record old { flash = new.flash }
  pub changes : ChangesTold sets (state old.flash) (state new.flash)
  pub always : HoldsAlways state protocol new

abbrev pub SetsArm : {F : Type 0} → (F → FlashState) → Protocol → (Told → Told → Type 0) →
    DeviceSession F → DeviceSession F → Type 0
SetsArm state protocol sets old new =
    BothOf (SetsArmHere state protocol sets) (λ a b. ChangesTold sets (state a) (state b)) old new

-- What comes of a call of a device: nothing more where it is live still, and else a mount of its
-- flash.
abbrev pub MountsAgain : {F : Type 0} → (F → FlashState) → Config → F → Reply →
    Result (DeviceSession F × Reply) (F × ServeError) → Type 0
MountsAgain state its flash r (Ok done) = Mounted state its flash done.0 × (done.1 ≡ r)
MountsAgain state its flash r (Err ended) = Unmounted state its flash ended.0 ended.1

-- the reply where what was open is lost, by whether power is on
abbrev pub lost_reply : Bool → Reply
lost_reply true = reply.Dropped
lost_reply false = reply.Cut

-- and what comes of it: a mount of the flash
pub record FollowsLoss {F : Type 0}
    (state : F → FlashState) (its : Config) (old : DeviceSession F)
    (result : Result (DeviceSession F × Reply) (F × ServeError)) (before after : PageCacheState) : Type 0 where
  pub mounts : MountsAgain state its (flash_in old) (lost_reply (state (flash_in old)).live) result
  pub emptied : after ≡ record before { entries = [] }

pub record Follows {F : Type 0}
    (state : F → FlashState) (its : Config) (old : DeviceSession F) (r : Reply)
    (result : Result (DeviceSession F × Reply) (F × ServeError)) (before after : PageCacheState) : Type 0 where
  pub went_on : (state (flash_in old)).live ≡ true → (result ≡ Ok (old, r)) × (after ≡ before)
  pub was_cut : (state (flash_in old)).live ≡ false →
      MountsAgain state its (flash_in old) reply.Cut result
      × (after ≡ record before { entries = [] })

-- the session that is left with what was answered: it goes on, or ends with its flash
abbrev pub left : {F : Type 0} → DeviceSession F → Result Reply ServeError →
    Result (DeviceSession F × Reply) (F × ServeError)
left new (Ok r) = Ok (new, r)
left new (Err why) = Err (flash_in new, why)

-- What serving a command leaves.
pub record Serves {F : Type 0}
    (state : F → FlashState) (its : Config)
    (c : Command) (old : DeviceSession F) (result : Result Reply ServeError) (new : DeviceSession F)
    (before after : PageCacheState) : Type 0 where
  pub fits : OnOk result (Fits state its after.entries new)
  pub serves : IfOk result (λ r. ServesSession state its c old r new)
  pub caches : IfOk result (λ r. CachesSession state its c old r new before after)
  pub ends : IfErr result (λ why. EndsServing state its c old (flash_in new) why)
  pub size : after.page_bytes ≡ before.page_bytes
