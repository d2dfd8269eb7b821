-- The session that serving begins with.
use Rattle.cut_replay.proofs.Common.{◌≡◌, Bool, true, false, List, [], Ok, Err, refl, sym, ap, ◌∙◌, subst, inl, inr, arith, MatchBool, Config, checked, shape_of, Shape, CachedPage, FlashState, BothTell, Carries, Spends, Moment, moment_of, ArrayState, array_in, idle, MountsFlash, BeginsFlash, mentions_in, first_point, CountsBreaks, flash_in, point_of, IsSoundFlash, Fits, Mounted, Unmounted, Begins, Command, Watched, ServesUnsound, ServeError, DeviceSession, sound_unbroken}
use Rattle.flash_model.specs.Flash.{IsSteady}
use Rattle.cut_replay.specs.Bounds.{BeginsUnbroken}
use Rattle.cut_replay.specs.Beginning.{MountsFirst}
use Rattle.mounted_session.specs.Mounting.{MomentStays, StaysQuiet}
use Rattle.array_runs.specs.Run.{RunState}
use Rattle.cut_replay.specs.FlashRun.{Point}
use Rattle.mounted_session.proofs.Beginning.{first_by, first_still}
use Rattle.mounted_session.proofs.Telling.{none_spent}
use Rattle.mounted_session.specs.Devices.{MountsIn, ReadsFew, mounts_quiet}
use Rattle.mounted_session.specs.Sessions.{IfAlone, is_mounted}
use Rattle.judged_records.specs.Images.{IsSoundImage}
use Rattle.tx_engine.specs.DeviceState.{DeviceState}
use Rattle.cut_replay.proofs.Losing.{mounted_fits}
use Rattle.cut_replay.specs.Served.{ServesSound, CountsTold, RefusesUnsound}
use Rattle.cut_replay.specs.UnmountedRun.{EndsUnmounted}
use Rattle.cut_replay.specs.declared.serving.ServeError.TheVariants as failed
use Rattle.mounted_session.specs.declared.session.Session.TheVariants as session
use Rattle.cut_replay.proofs.Mountings.{mounted_stands, mounted_leaves, mounted_flash, mounted_by}
use Rattle.cut_replay.proofs.Runs.{grew_none, least_none, counts_later}

-- a device is mounted on a sound image alone
mounted_sound : {F : Type 0} (state : F → FlashState) (its : Config) (flash : F) (s : DeviceState F) →
    MountsIn state its flash s → IsSoundFlash its (state flash)
mounted_sound state its flash s h =
    subst (λ (m : Moment). IsSoundImage its.protocol its.logical (shape_of its) m.image) h.still.moment
    (subst (λ (c : Config). IsSoundImage c.protocol c.logical (shape_of c) (state s.flash).image) h.config
    h.always.sound)

on_begins : (its : Config) (up : Bool) (old first : FlashState) → old.live ≡ true → MountsFlash its up old first →
    BeginsFlash its old up first
on_begins its up old first on mount =
    subst (λ b. MatchBool b (MountsFlash its up old first) ((up ≡ false) × (first ≡ old))) (sym on) mount

off_begins : (its : Config) (old : FlashState) → old.live ≡ false → BeginsFlash its old false old
off_begins its old off =
    subst (λ b. MatchBool b (MountsFlash its false old old) ((false ≡ false) × (old ≡ old))) (sym off) (refl, refl)

-- at the first point
begun_point : {F : Type 0} (state : F → FlashState) (its : Config) (flash : F) (s : DeviceSession F) →
    Mounted state its flash s → (up : Bool) ×
    (point_of state its s ≡ first_point its up (state (flash_in s)))
begun_point state its flash (session.Mounted s) h = (
  true,
  ap (λ (m : ArrayState). let at : RunState = record { machine = m; up = true } in
      let p : Point = record { state = at; flash = state s.flash } in p)
      (h.machine ∙ ap (λ (m : Moment). idle (array_in its.protocol its.logical m.image)) (sym h.still.moment)),
)
begun_point state its flash (session.Unmounted new) h = (false, refl)

-- a mounted device has power
mount_live : (its : Config) (up : Bool) (old new : FlashState) → MountsFlash its up old new → up ≡ true →
    new.live ≡ true
mount_live its true old new h is = h.carries.lives
mount_live its false old new h is = (let no : false ≡ true = is in absurd cc)

-- by a mount
begun_flash : {F : Type 0} (state : F → FlashState) (its : Config) (flash : F) (s : DeviceSession F) →
    (h : Mounted state its flash s) →
    MountsFlash its (begun_point state its flash s h).0 (state flash) (state (flash_in s))
unfolding begun_point
begun_flash {F = F} state its flash (session.Mounted s) h =
    let up : DeviceSession F = session.Mounted s in mounted_flash state its flash up h
begun_flash {F = F} state its flash (session.Unmounted new) h =
    let alone : DeviceSession F = session.Unmounted new in mounted_flash state its flash alone h

-- no fault was counted, unless the first mount met one
pub none_counted : (s : FlashState) → CountsBreaks [] s s
none_counted s = record { least = least_none s.faults s.faults (omega arith); quiet = λ unbroken all. refl }

first_unbroken : (old new : FlashState) → old.live ≡ true → BeginsUnbroken old →
    BothTell (Spends new.live) old.told new.told → ⊥
first_unbroken old new on (inl off) h = cc
first_unbroken old new on (inr steady) h = none_spent old.told new.told new.live steady.none h

begun_faults : {F : Type 0} (state : F → FlashState) (its : Config) (flash : F) (s : DeviceSession F) →
    (state flash).live ≡ true → Mounted state its flash s →
    CountsBreaks [] (state flash) (state (flash_in s))
begun_faults state its flash (session.Mounted s) on h = record {
  least = least_none (state flash).faults (state s.flash).faults h.still.later;
  quiet = λ unbroken all. h.quiet;
}
begun_faults state its flash (session.Unmounted new) on h = record {
  least = least_none (state flash).faults (state new).faults h.still.later;
  quiet = λ unbroken all. absurd (first_unbroken (state flash) (state new) on unbroken h.spends);
}

begun : {F : Type 0} (state : F → FlashState) (its : Config) (flash : F) (s : DeviceSession F) →
    (state flash).live ≡ true → Mounted state its flash s →
    IsSoundFlash its (state flash) → Begins state its (state flash) s
begun state its flash s on h sound =
    let at = begun_point state its flash s h in
    let mount = begun_flash state its flash s h in
    record {
      sound = sound;
      up = at.0;
      first = on_begins its at.0 (state flash) (state (flash_in s)) on mount;
      moment = mount.moment;
      live = λ up. mount_live its at.0 (state flash) (state (flash_in s)) mount up;
      point = at.1;
      stands = mounted_stands state its flash (mentions_in its (moment_of (state flash))) false s
          (mounted_leaves state its flash s h) sound
          (λ page lt. omega arith);
    }

-- a flash without power, which is not mounted
dead_begins : {F : Type 0} (state : F → FlashState) (its : Config) (flash : F) →
    (state flash).live ≡ false → IsSoundFlash its (state flash) →
    Begins state its (state flash) (session.Unmounted flash)
dead_begins state its flash off sound = record {
  sound = sound;
  up = false;
  first = off_begins its (state flash) off;
  moment = refl;
  live = λ up. (let no : false ≡ true = up in absurd cc);
  point = refl;
  stands = record { sound = sound; mentions = λ page lt. omega arith };
}

-- nothing was served, for want of memory
nothing_served : {F : Type 0} (state : F → FlashState) (its : Config) (list : List Command) (flash new : F)
    (w : Watched) →
    IsSoundFlash its (state flash) → StaysQuiet (state flash) (state new) → Carries (state flash) (state new) false →
    ServesSound its list (state flash) (state new) w w (Err failed.Memory)
nothing_served state its list flash new w sound still calls =
    inl (record { still = still; calls = calls; untold = refl })

pub begin_ended : {F : Type 0} (state : F → FlashState) (its : Config) (list : List Command)
    (flash new : F) (why : ServeError) (w : Watched) →
    IsSoundFlash its (state flash) → Unmounted state its flash new why → Carries (state flash) (state new) false →
    ServesSound its list (state flash) (state new) w w (Err why)
begin_ended state its list flash new (failed.Unsound law slot) w sound h calls = absurd
    (sound_unbroken its.protocol its.logical (shape_of its) (state flash).image
    (record { law = law; slot = slot }) sound h.1)
begin_ended state its list flash new failed.Memory w sound h calls =
    nothing_served state its list flash new w sound h calls

-- the shape of the flash of a session, and of the flash that comes back
pub fits_shape : {F : Type 0} (state : F → FlashState) (its : Config) (cache : List CachedPage) (s : DeviceSession F) →
    Fits state its cache s →
    checked its ≡ Ok (state (flash_in s)).shape
fits_shape state its cache (session.Mounted s) h = h.check
fits_shape state its cache (session.Unmounted flash) h = h

pub same_shape : (its : Config) (old new : Shape) → checked its ≡ Ok old →
    checked its ≡ Ok new → new ≡ old
same_shape its old new was is = cc

-- a flash that tells that no break is to come has a sound image once it was mounted
begun_steady : {F : Type 0} (state : F → FlashState) (its : Config) (flash : F) (s : DeviceSession F) →
    Mounted state its flash s → IsSteady (state flash) → IsSoundFlash its (state flash)
begun_steady state its flash (session.Mounted s) h steady = mounted_sound state its flash s h
begun_steady state its flash (session.Unmounted new) h steady =
    absurd (none_spent (state flash).told (state new).told (state new).live steady.none h.spends)

-- and any other one, where a device is mounted
begun_mounted : {F : Type 0} (state : F → FlashState) (its : Config) (flash : F) (s : DeviceSession F) →
    Mounted state its flash s → is_mounted s ≡ true → IsSoundFlash its (state flash)
begun_mounted state its flash (session.Mounted s) h up = mounted_sound state its flash s h
begun_mounted state its flash (session.Unmounted new) h up = (let no : false ≡ true = up in absurd cc)

unsound_begun : {F : Type 0} (state : F → FlashState) (its : Config) (flash : F) (s : DeviceSession F) →
    (state flash).live ≡ true → Mounted state its flash s → (IsSoundFlash its (state flash) → ⊥) →
    BeginsFlash its (state flash) false (state (flash_in s))
unsound_begun state its flash (session.Mounted s) on h unsound =
    absurd (unsound (mounted_sound state its flash s h))
unsound_begun {F = F} state its flash (session.Unmounted new) on h unsound =
    let alone : DeviceSession F = session.Unmounted new in
    on_begins its false (state flash) (state new) on (mounted_flash state its flash alone h)

-- the session that serving begins with: a live flash was mounted, and another one stays
module _ {F : Type 0} (state : F → FlashState) (its : Config) (flash : F) (s : DeviceSession F)
    (first : MountsFirst state its flash s) where
  -- of a session that mounting leaves
  first_of : (Q : DeviceSession F → Type 0) →
      ((t : DeviceSession F) → (state flash).live ≡ true → Mounted state its flash t → Q t) →
      ((state flash).live ≡ false → Q (session.Unmounted flash)) → Q s
  first_of Q on off = first_by state (MountsIn state its) flash
      (λ t. ((state flash).live ≡ true → IfAlone (λ new. ReadsFew its (state flash) (state new)) t) → Q t)
      (λ t live h met. on t live (mounted_by state its flash t h (met live))) (λ dead met. off dead) s first.mounts
      first.met

  pub first_begins : IsSoundFlash its (state flash) → Begins state its (state flash) s
  first_begins sound = first_of (λ t. Begins state its (state flash) t)
      (λ t on h. begun state its flash t on h sound) (λ off. dead_begins state its flash off sound)

  -- of an image that is not sound no device is mounted
  pub first_unsound : (IsSoundFlash its (state flash) → ⊥) →
      BeginsFlash its (state flash) false (state (flash_in s))
  first_unsound unsound = first_of
      (λ t. BeginsFlash its (state flash) false (state (flash_in t)))
      (λ t on h. unsound_begun state its flash t on h unsound) (λ off. off_begins its (state flash) off)

  pub first_steady : IsSteady (state flash) → IsSoundFlash its (state flash)
  first_steady steady = first_of (λ t. IsSoundFlash its (state flash))
      (λ t on h. begun_steady state its flash t h steady)
      (λ off. let both = sym off ∙ steady.live in cc)

  pub first_mounted : is_mounted s ≡ true → IsSoundFlash its (state flash)
  first_mounted = first_of (λ t. is_mounted t ≡ true → IsSoundFlash its (state flash))
      (λ t on h. begun_mounted state its flash t h)
      (λ off up. (let no : false ≡ true = up in absurd cc))

  pub first_faults : CountsBreaks [] (state flash) (state (flash_in s))
  first_faults = first_of
      (λ t. CountsBreaks [] (state flash) (state (flash_in t)))
      (λ t on h. begun_faults state its flash t on h) (λ off. none_counted (state flash))

  pub first_fits : checked its ≡ Ok (state flash).shape → Fits state its [] s
  first_fits check = first_of (λ t. Fits state its [] t)
      (λ t on h. mounted_fits state its flash t check h) (λ off. check)

  pub first_stays : MomentStays (state flash) (state (flash_in s))
  first_stays = first_still state (MountsIn state its) flash (λ (d : DeviceState F). d.flash)
      (mounts_quiet state its flash) s first.mounts

pub begin_refused : {F : Type 0} (state : F → FlashState) (its : Config) (flash new : F) (why : ServeError) →
    Unmounted state its flash new why →
    RefusesUnsound its (state flash) (state new) (Err why)
begin_refused state its flash new (failed.Unsound law slot) h = (h.0.still.moment, h.1)
begin_refused state its flash new failed.Memory h = inr h.still.moment

-- of an image that is not sound
ended_as : (init final : FlashState) (why : ServeError) → StaysQuiet init final → CountsTold [] init final (Err why)
ended_as init final (failed.Unsound law slot) still = counts_later [] init init final (none_counted init) still.quiet
ended_as init final failed.Memory still = tt

left_as : (its : Config) (list : List Command) (init final : FlashState) (why : ServeError) → StaysQuiet init final →
    EndsUnmounted its list 0 init final (Err why)
left_as its list init final (failed.Unsound law slot) still = still
left_as its list init final failed.Memory still = inl still

pub unsound_ended : (its : Config) (init final : FlashState) (list : List Command) (w : Watched) (why : ServeError) →
    StaysQuiet init final → Carries init final false →
    ServesUnsound its list init final w w (Err why)
unsound_ended its init final list w why still calls = record {
  told = 0;
  replies = [];
  first = init;
  points = [];
  begins = inr (refl, refl, still, calls);
  run = tt;
  all = tt;
  ends = left_as its list init final why still;
  still = still.still.moment;
  text = grew_none w.text;
  kept = grew_none w.kept;
  flashes = grew_none w.flashes;
  faults = ended_as init final why still;
}

unmounted_quiet : {F : Type 0} (state : F → FlashState) (its : Config) (flash new : F) (why : ServeError) →
    Unmounted state its flash new why →
    StaysQuiet (state flash) (state new)
unmounted_quiet state its flash new (failed.Unsound law slot) h = h.0
unmounted_quiet state its flash new failed.Memory h = h

pub begin_unsound : {F : Type 0} (state : F → FlashState) (its : Config) (list : List Command) (flash new : F)
    (why : ServeError) (w : Watched) →
    Unmounted state its flash new why → Carries (state flash) (state new) false →
    ServesUnsound its list (state flash) (state new) w w (Err why)
begin_unsound state its list flash new why w h calls = unsound_ended its (state flash) (state new) list w why
    (unmounted_quiet state its flash new why h) calls

pub begin_shape : {F : Type 0} (state : F → FlashState) (its : Config) (flash new : F) (why : ServeError) →
    Unmounted state its flash new why →
    (state new).shape ≡ (state flash).shape
begin_shape state its flash new (failed.Unsound law slot) h = h.0.still.shape
begin_shape state its flash new failed.Memory h = h.still.shape

pub begin_extras : {F : Type 0} (state : F → FlashState) (its : Config) (flash new : F) (why : ServeError) →
    Unmounted state its flash new why →
    (state new).extras ≡ (state flash).extras
begin_extras state its flash new (failed.Unsound law slot) h = h.0.still.extras
begin_extras state its flash new failed.Memory h = h.still.extras
