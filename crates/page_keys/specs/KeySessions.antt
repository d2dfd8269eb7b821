-- What serving a command of a key script comes to, in a session with its store while that is open.
use Rattle.std.specs.Prelude.{◌≡◌, ◌<◌, ◌≤◌, ℕ, Bool, true, false, List, Option, Some, None, Ok}
use Rattle.tx_types.specs.Config.{checked, shape_of}
use Rattle.tx_types.specs.declared.config.Config.{Config}
use Rattle.tx_types.specs.declared.config.Protocol.{Protocol}
use Rattle.flash_model.specs.Arms.{ArmsCut}
use Rattle.flash_model.specs.declared.outcome.Outcome.{Outcome}
use Rattle.flash_model.specs.Calls.{Carries}
use Rattle.flash_model.specs.Flash.{FlashState, counted_times}
use Rattle.flash_model.specs.Operations.{moment_of}
use Rattle.judged_records.specs.Images.{IsSoundImage, IsLeastImageBreach, array_in}
use Rattle.array_runs.specs.Run.{MayBeSpent}
use Rattle.tx_engine.specs.Always.{IsSeen, HoldsAlways}
use Rattle.array_machine.specs.ArrayState.{idle}
use Rattle.tx_engine.specs.Naming.{is_spent}
use Rattle.tx_engine.specs.Opens.{mount_reads}
use Rattle.mounted_session.specs.Mounting.{IsRefused, StaysQuiet, powered}
use Rattle.mounted_session.specs.Sessions as sessions
use Rattle.mounted_session.specs.Sessions.{BothOf, EachOf, is_mounted}
use Rattle.mounted_session.specs.declared.device.Refusal.{Refusal}
use Rattle.mounted_session.specs.declared.device.Refusal.TheVariants as refusal
use Rattle.mounted_session.specs.declared.mounted.NotMounted.{NotMounted}
use Rattle.mounted_session.specs.declared.mounted.NotMounted.TheVariants as fails
use Rattle.mounted_session.specs.declared.session.Session.{Session}
use Rattle.page_keys.specs.Buckets.{AreBuckets, EncodesMap}
use Rattle.page_keys.specs.KeyMaps.{KeyMap}
use Rattle.page_keys.specs.KeyRuns.{KeyPoint, key_at, DoesKeys, RepliesUnopened, ServesKeys, is_key_cut, is_key_fault, mentions_in, seen_after}
use Rattle.page_keys.specs.Stores.{KeyStoreState, HasKeys, IsFirstBad}
use Rattle.page_keys.specs.declared.command.KeyCommand.{KeyCommand}
use Rattle.page_keys.specs.declared.answers.KeyError.{KeyError}
use Rattle.page_keys.specs.declared.answers.KeyError.TheVariants as opening
use Rattle.page_keys.specs.declared.answers.PutError.{PutError}
use Rattle.page_keys.specs.declared.answers.PutError.TheVariants as refused
use Rattle.page_keys.specs.declared.changes.Change.{Change}
use Rattle.page_keys.specs.declared.key_reply.KeyReply.{KeyReply}
use Rattle.page_keys.specs.declared.key_reply.KeyReply.TheVariants as reply
use Rattle.page_keys.specs.declared.key_error.KeyServeError.{KeyServeError}
use Rattle.page_keys.specs.declared.key_error.KeyServeError.TheVariants as failed

-- a flash on which a key script is served
abbrev pub KeySession : Type 0 → Type 0
KeySession F = Session F (KeyStoreState F)

-- the flash of a session
abbrev pub flash_in : {F : Type 0} → KeySession F → F
flash_in s = sessions.flash_in (λ k. k.device.flash) s

-- the point of a run that a session is at, with this map
abbrev pub point_of : {F : Type 0} → (F → FlashState) → KeyMap → KeySession F → KeyPoint
point_of state m s = record { keys = m; up = is_mounted s; flash = state (flash_in s) }

-- the image of a flash is sound, and each page is a bucket
pub record IsKeyImage (its : Config) (s : FlashState) : Type 0 where
  pub sound : IsSoundImage its.protocol its.logical (shape_of its) s.image
  pub buckets : AreBuckets its (array_in its.protocol its.logical s.image)

-- an open store is live and can be used
pub record FitsMounted {F : Type 0} (state : F → FlashState) (its : Config) (k : KeyStoreState F) :
    Type 0 where
  pub usable : k.broken ≡ false
  pub config : k.device.config ≡ its
  pub check : checked its ≡ Ok (state k.device.flash).shape
  pub live : (state k.device.flash).live ≡ true
  pub keys : HasKeys k.device
  pub always : HoldsAlways state its.protocol k.device

-- the session is one on a flash of this configuration
abbrev pub Fits : {F : Type 0} → (F → FlashState) → Config → KeySession F → Type 0
Fits state its s = EachOf (FitsMounted state its) (λ flash. checked its ≡ Ok (state flash).shape) s

-- the array shows the map, and `seen` is at least each mention
pub record StandsMounted {F : Type 0} (its : Config) (seen : ℕ → ℕ) (m : KeyMap) (k : KeyStoreState F) :
    Type 0 where
  pub shows : EncodesMap its k.device.machine.pages m
  pub mentions : IsSeen seen k.device

pub record StandsUnmounted (its : Config) (seen : ℕ → ℕ) (m : KeyMap) (s : FlashState) : Type 0 where
  pub sound : IsSoundImage its.protocol its.logical (shape_of its) s.image
  pub shows : EncodesMap its (array_in its.protocol its.logical s.image) m
  pub mentions : (page : ℕ) → page < its.logical → mentions_in its (moment_of s) page ≤ seen page

abbrev pub StandsAt : {F : Type 0} → (F → FlashState) → Config → (ℕ → ℕ) → KeyMap →
    KeySession F → Type 0
StandsAt state its seen m s =
    EachOf (StandsMounted its seen m) (λ flash. StandsUnmounted its seen m (state flash)) s

-- a command was served in a session that stands for a map, with this reply
pub record ServesIn {F : Type 0} (state : F → FlashState) (its : Config) (seen : ℕ → ℕ)
    (m : KeyMap) (c : KeyCommand) (old : KeySession F) (r : KeyReply) (new : KeySession F) :
    Type 0 where
  pub left : KeyMap
  pub spent : ℕ → Bool
  pub may : MayBeSpent seen spent
  pub serves : ServesKeys its spent c (point_of state m old) r (point_of state left new)
  pub stands : StandsAt state its (seen_after its seen c r) left new

-- What serving a command comes to. Where the image is not sound, or has a page that is no bucket, the store is not
-- opened, and nothing is written.
pub record ServesOne {F : Type 0} (state : F → FlashState) (its : Config) (c : KeyCommand)
    (old : KeySession F) (r : KeyReply) (new : KeySession F) : Type 0 where
  pub fits : Fits state its new
  pub in_run : (seen : ℕ → ℕ) → (m : KeyMap) → StandsAt state its seen m old →
      ServesIn state its seen m c old r new
  pub unopened : (IsKeyImage its (state (flash_in old)) → ⊥) →
      (moment_of (state (flash_in new)) ≡ moment_of (state (flash_in old)))
      × RepliesUnopened its c (state (flash_in old)) r (state (flash_in new))
  pub extras : (state (flash_in new)).extras ≡ (state (flash_in old)).extras

-- why no more commands are served: by the image, or for want of memory
abbrev pub IsWhy : Config → FlashState → KeyServeError → Type 0
IsWhy its s (failed.Unsound law slot) =
    IsLeastImageBreach its.protocol its.logical (shape_of its) s.image
    (record { law = law; slot = slot })
IsWhy its s (failed.Bucket page) =
    IsSoundImage its.protocol its.logical (shape_of its) s.image
    × IsFirstBad its (array_in its.protocol its.logical s.image) page
IsWhy its s failed.Memory = Unit {0}

-- no more commands are served: the flash is as it was but for reads
abbrev pub Ends : Config → FlashState → FlashState → KeyServeError → Type 0
Ends its old new why = IsRefused (IsWhy its old) old new why

-- why the flash of a device that was refused is, and that of a device over which no store is opened
abbrev pub refused_device : NotMounted Refusal → NotMounted KeyServeError
refused_device fails.Fault = fails.Fault
refused_device (fails.Refused (refusal.Unsound law slot)) = fails.Refused (failed.Unsound law slot)
refused_device (fails.Refused refusal.Memory) = fails.Refused failed.Memory

abbrev pub not_opened : KeyError → NotMounted KeyServeError
not_opened opening.Fault = fails.Fault
not_opened (opening.Bucket page) = fails.Refused (failed.Bucket page)
not_opened opening.Memory = fails.Refused failed.Memory

-- a store was opened over the flash, by reads alone
pub record Opens {F : Type 0} (state : F → FlashState) (its : Config) (flash : F) (k : KeyStoreState F) :
    Type 0 where
  pub fits : FitsMounted state its k
  pub machine : k.device.machine
      ≡ idle (array_in its.protocol its.logical (state flash).image)
  pub seen : (seen : ℕ → ℕ) →
      ((page : ℕ) → page < its.logical → mentions_in its (moment_of (state flash)) page ≤ seen page) →
      IsSeen seen k.device
  pub still : StaysQuiet (state flash) (state k.device.flash)
  pub reads : (more : ℕ) × ((state k.device.flash).reads
      ≡ counted_times more (counted_times (mount_reads its (state flash)) (state flash).reads))
  pub carries : Carries (powered (state flash)) (state k.device.flash) false

-- what opening a store over a flash comes to: a store, or a fault that a read met
abbrev pub Mounts : {F : Type 0} → (F → FlashState) → Config → F → KeySession F → Type 0
Mounts state its flash s = sessions.Mounts state (Opens state its) flash s

-- an open store can be used
abbrev pub IsUsable : {F : Type 0} → KeySession F → Type 0
IsUsable s = EachOf (λ k. k.broken ≡ false) (λ flash. Unit {0}) s

-- a cut is to come, and all else stays
pub record SetsCutHere {F : Type 0} (state : F → FlashState) (protocol : Protocol) (count : ℕ)
    (what : Outcome) (old new : KeyStoreState F) : Type 0 where
  pub stays : new ≡ record old { device = record old.device { flash = new.device.flash } }
  pub arms : ArmsCut (state old.device.flash) (state new.device.flash) count what
  pub keys : HasKeys new.device
  pub always : HoldsAlways state protocol new.device

abbrev pub SetsCut : {F : Type 0} → (F → FlashState) → Protocol → ℕ → Outcome → KeySession F →
    KeySession F → Type 0
SetsCut state protocol count what old new =
    BothOf (SetsCutHere state protocol count what) (λ a b. ArmsCut (state a) (state b) count what) old new

-- the reply of a put that was not done; none for want of memory
abbrev pub reply_of : List Change → PutError → Option KeyReply
reply_of cs refused.Empty = Some reply.RefusedEmpty
reply_of cs (refused.Repeated i) = Some (reply.RefusedRepeated (key_at cs i))
reply_of cs (refused.Wide pages) = Some (reply.RefusedWide pages)
reply_of cs (refused.Bucket page) = Some (reply.RefusedBucket page)
reply_of cs (refused.Spent page) = Some (reply.RefusedSpent page)
reply_of cs refused.Fault = Some reply.Fault
reply_of cs refused.Memory = None

-- What a command that is no arm does on a store, with this reply unless power was cut, whether or not the store is open
-- afterwards.
pub record DoesHere {F : Type 0} (state : F → FlashState) (c : KeyCommand) (m : KeyMap)
    (old new : KeyStoreState F) (r : KeyReply) : Type 0 where
  pub left : KeyMap
  pub does : (up : Bool) → DoesKeys old.device.config (is_spent old.device.noted.mentions) c
      (record { keys = m; up = true; flash = state old.device.flash }) r
      (record { keys = left; up = up; flash = state new.device.flash })
  pub shows : is_key_fault r ≡ false → EncodesMap new.device.config new.device.machine.pages left
  pub image : is_key_fault r ≡ true → EncodesMap new.device.config
      (array_in new.device.config.protocol new.device.config.logical (state new.device.flash).image)
      left
  pub config : new.device.config ≡ old.device.config
  pub carries : Carries (state old.device.flash) (state new.device.flash) (is_key_fault r)
  pub usable : is_key_fault r ≡ false → new.broken ≡ false
  pub seen : (seen : ℕ → ℕ) → IsSeen seen old.device →
      IsSeen (seen_after old.device.config seen c r) new.device
  pub whole : is_key_cut r ≡ false

abbrev pub DoesFor : {F : Type 0} → (F → FlashState) → KeyCommand → KeyStoreState F → KeyStoreState F → KeyReply →
    Type 0
DoesFor state c old new r =
    (m : KeyMap) → EncodesMap old.device.config old.device.machine.pages m →
    DoesHere state c m old new r

-- there was no memory for a put, which changed nothing
pub record MemoryLeaves {F : Type 0} (state : F → FlashState) (old new : KeyStoreState F) : Type 0 where
  pub config : new.device.config ≡ old.device.config
  pub moment : moment_of (state new.device.flash) ≡ moment_of (state old.device.flash)
  pub carries : Carries (state old.device.flash) (state new.device.flash) false
