-- What is so of a session whose flash was mounted, or was not because a read met a fault.
use Rattle.cut_replay.proofs.Common.{◌≡◌, ℕ, ◌<◌, ◌≤◌, Bool, true, sym, ap, ◌∙◌, subst, inl, false, refl, Config, shape_of, FlashState, Moment, moment_of, mention, IsSoundImage, array_in, records_in, IndexState, ArrayState, idle, DeviceState, IsPoint, MountsFlash, IsSeen, MomentStays, point_of, flash_in, IsSoundFlash, StandsAt, MountsIn, Mounted, DeviceSession}
use Rattle.tx_engine.proofs.OfDevice.Seen.{opened_seen}
use Rattle.mounted_session.specs.Devices.{IsWhy, ReadsFew}
use Rattle.mounted_session.specs.Sessions.{IfAlone, Mounts}
use Rattle.mounted_session.specs.Mounting.{IsRefused}
use Rattle.mounted_session.specs.declared.device.Refusal.{Refusal}
use Rattle.mounted_session.specs.declared.device.Refusal.TheVariants as refusal
use Rattle.cut_replay.specs.Sessions.{Unmounted, serve_error}
use Rattle.mounted_session.specs.declared.session.Session.TheVariants as session

-- the device of a flash, or the flash, with its moment
abbrev pub Leaves : {F : Type 0} → (F → FlashState) → Config → F → DeviceSession F → Type 0
Leaves state its flash (session.Mounted s) = MountsIn state its flash s
Leaves state its flash (session.Unmounted new) = MomentStays (state flash) (state new)

pub mounted_leaves : {F : Type 0} (state : F → FlashState) (its : Config) (flash : F) (s : DeviceSession F) →
    Mounted state its flash s → Leaves state its flash s
mounted_leaves state its flash (session.Mounted s) h = h
mounted_leaves state its flash (session.Unmounted new) h = h.still

-- the array of the flash, with nothing open
pub mounted_machine : {F : Type 0} (state : F → FlashState) (its : Config) (flash : F) (s : DeviceSession F) →
    Leaves state its flash s →
    (point_of state its s).state.machine ≡ idle (array_in its.protocol its.logical (state flash).image)
mounted_machine state its flash (session.Mounted s) h = h.machine
mounted_machine state its flash (session.Unmounted new) h =
    ap (λ (m : Moment). idle (array_in its.protocol its.logical m.image)) h.moment

-- and its moment
pub mounted_still : {F : Type 0} (state : F → FlashState) (its : Config) (flash : F) (s : DeviceSession F) →
    Leaves state its flash s →
    MomentStays (state flash) (state (flash_in s))
mounted_still state its flash (session.Mounted s) h = h.still
mounted_still state its flash (session.Unmounted new) h = h

pub mounted_moment : {F : Type 0} (state : F → FlashState) (its : Config) (flash : F) (s : DeviceSession F) →
    Leaves state its flash s →
    moment_of (point_of state its s).flash ≡ moment_of (state flash)
mounted_moment state its flash (session.Mounted s) h = h.still.moment
mounted_moment state its flash (session.Unmounted new) h = h.moment

mounted_live : {F : Type 0} (state : F → FlashState) (its : Config) (flash : F) (s : DeviceSession F) →
    Leaves state its flash s →
    (point_of state its s).state.up ≡ true → (point_of state its s).flash.live ≡ true
mounted_live state its flash (session.Mounted s) h up = h.live
mounted_live state its flash (session.Unmounted new) h up = (let no : false ≡ true = up in absurd cc)

pub mounted_point : {F : Type 0} (state : F → FlashState) (its : Config) (flash : F) (s : DeviceSession F) →
    Leaves state its flash s →
    IsSoundFlash its (state flash) → IsPoint its (point_of state its s)
mounted_point state its flash s h sound =
    let moment = mounted_moment state its flash s h in
    record {
      sound = subst (λ (m : Moment). IsSoundImage its.protocol its.logical (shape_of its) m.image) (sym moment) sound;
      array = inl (ap (λ (m : Moment). array_in its.protocol its.logical m.image) moment ∙
          ap (λ (a : ArrayState). a.pages) (sym (mounted_machine state its flash s h)));
      live = mounted_live state its flash s h;
    }

-- the flash of the point
pub point_flash : {F : Type 0} (state : F → FlashState) (its : Config) (s : DeviceSession F) →
    (point_of state its s).flash ≡ state (flash_in s)
point_flash state its (session.Mounted s) = refl
point_flash state its (session.Unmounted flash) = refl

-- and what the mount did to it
pub mounted_flash : {F : Type 0} (state : F → FlashState) (its : Config) (flash : F) (s : DeviceSession F) →
    Mounted state its flash s →
    MountsFlash its (point_of state its s).state.up (state flash) (point_of state its s).flash
mounted_flash state its flash (session.Mounted s) h = record {
  carries = h.carries;
  moment = h.still.moment;
  reads = h.reads;
  started = h.started;
}
mounted_flash state its flash (session.Unmounted new) h = record {
  carries = h.carries;
  moment = h.still.moment;
  reads = h.few.reads;
  started = h.few.started;
}

-- by what mounting it says
pub mounted_by : {F : Type 0} (state : F → FlashState) (its : Config) (flash : F) (s : DeviceSession F) →
    Mounts state (MountsIn state its) flash s → IfAlone (λ new. ReadsFew its (state flash) (state new)) s →
    Mounted state its flash s
mounted_by state its flash (session.Mounted s) h met = h
mounted_by state its flash (session.Unmounted new) h met = record {
  still = h.still;
  rose = h.rose;
  spends = h.spends;
  carries = h.carries;
  few = met;
}

-- each page is mentioned as the image mentions it
device_seen : {F : Type 0} (state : F → FlashState) (its : Config) (flash : F) (seen : ℕ → ℕ) (s : DeviceState F) →
    MountsIn state its flash s →
    ((page : ℕ) → page < its.logical → mention (records_in its.protocol (state flash).image) page ≤ seen page) →
    IsSeen seen s
device_seen state its flash seen s h most =
    opened_seen seen (records_in its.protocol (state flash).image) its.logical s
    (ap (λ (n : IndexState). n.mentions) h.tables.noted_is) h.namings
    (λ page ge. h.always.beyond page (subst (λ (c : Config). c.logical ≤ page) (sym h.config) ge)) most

pub mounted_stands : {F : Type 0} (state : F → FlashState) (its : Config) (flash : F) (seen : ℕ → ℕ) (faulted : Bool)
    (s : DeviceSession F) →
    Leaves state its flash s → IsSoundFlash its (state flash) →
    ((page : ℕ) → page < its.logical → mention (records_in its.protocol (state flash).image) page ≤ seen page) →
    StandsAt state its seen faulted s
mounted_stands state its flash seen faulted (session.Mounted s) h sound most = record {
  sure = λ whole. h.unsure;
  mentions =
      device_seen state its flash seen s h most;
}
mounted_stands state its flash seen faulted (session.Unmounted new) h sound most = record {
  sound = subst (λ (m : Moment). IsSoundImage its.protocol its.logical (shape_of its) m.image) (sym h.moment) sound;
  mentions = λ page lt. subst (λ (m : Moment). mention (records_in its.protocol m.image) page ≤ seen page)
      (sym h.moment) (most page lt);
}

-- and where the flash is refused
pub refused_as : {F : Type 0} (state : F → FlashState) (its : Config) (flash new : F) (why : Refusal) →
    IsRefused (IsWhy its (state flash)) (state flash) (state new) why →
    Unmounted state its flash new (serve_error why)
refused_as state its flash new (refusal.Unsound law slot) h = (h.still, h.cause)
refused_as state its flash new refusal.Memory h = h.still
