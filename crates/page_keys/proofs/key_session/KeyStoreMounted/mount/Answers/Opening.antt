-- Opening a store over a device that was mounted.
use Rattle.page_keys.proofs.Common.{◌≡◌, ◌≤◌, false, Ok, sym, ap, subst, ◌∙◌, checked, shape_of, Config, Protocol, Shape, FlashState, Moment, Carries-then, IsSoundImage, array_in, IndexState, HoldsAlways, ArrayState, Pages, DeviceState, HasKeys, KeyStoreState, OnlyReads}
use Rattle.flash_model.specs.Flash.{counted_times}
use Rattle.judged_records.specs.Images.{records_in}
use Rattle.tx_engine.proofs.OfDevice.Seen.{opened_seen}
use Rattle.mounted_session.proofs.Mounting.{fault_then, quiet_then}
use Rattle.mounted_session.specs.Devices as device
use Rattle.mounted_session.specs.Mounting.{FailsToMount, StaysQuiet, powered}
use Rattle.mounted_session.specs.declared.device.Refusal.{Refusal}
use Rattle.mounted_session.specs.declared.device.Refusal.TheVariants as refusal
use Rattle.mounted_session.specs.declared.mounted.NotMounted.{NotMounted}
use Rattle.mounted_session.specs.declared.mounted.NotMounted.TheVariants as fails
use Rattle.page_keys.specs.KeySessions.{IsWhy, Opens, not_opened, refused_device}
use Rattle.page_keys.specs.Stores.{IsFirstBad, OpensNot, is_opening_fault}
use Rattle.page_keys.specs.declared.answers.KeyError.{KeyError}
use Rattle.page_keys.specs.declared.answers.KeyError.TheVariants as opening

module _ {F : Type 0} (state : F → FlashState) (its : Config) (old : F) (s : DeviceState F)
    (mounts : device.MountsIn state its old s) where
  quiet : StaysQuiet (state old) (state s.flash)
  quiet = device.mounts_quiet state its old s mounts

  read_quiet : (t : DeviceState F) → OnlyReads state s t false → StaysQuiet (state old) (state t.flash)
  read_quiet t reads = quiet_then (state old) (state s.flash) (state t.flash) quiet reads.moment reads.carries

  -- the store is not opened
  pub fails_to_open : (t : DeviceState F) (e : KeyError) → OpensNot s e → OnlyReads state s t (is_opening_fault e) →
      FailsToMount (IsWhy its (state old)) (state old) (state t.flash) (not_opened e)
  fails_to_open t opening.Fault cause reads =
      fault_then (state old) (state s.flash) (state t.flash) quiet reads.moment mounts.carries mounts.live
      reads.carries
  fails_to_open t opening.Memory cause reads = record { cause = tt; still = read_quiet t reads }
  fails_to_open t (opening.Bucket page) cause reads =
      let sound = subst (λ (c : Config).
      IsSoundImage c.protocol c.logical (shape_of c) (state s.flash).image) mounts.config mounts.always.sound in
      let pages : s.machine.pages ≡ array_in its.protocol its.logical (state old).image =
      ap (λ (m : ArrayState). m.pages) mounts.machine in
      record {
        cause = (
          subst (λ (m : Moment). IsSoundImage its.protocol its.logical (shape_of its) m.image)
              mounts.still.moment sound,
          subst (λ (p : Pages). IsFirstBad its p page) pages
              (subst (λ (c : Config). IsFirstBad c s.machine.pages page) mounts.config cause),
        );
        still = read_quiet t reads;
      }

  -- the store is opened
  pub opened : (protocol : Protocol) (k : KeyStoreState F) → its.protocol ≡ protocol →
      checked its ≡ Ok (state old).shape → HasKeys k.device × (k.broken ≡ false) →
      OnlyReads state s k.device false → HoldsAlways state protocol k.device → Opens state its old k
  opened protocol k rule check keys reads always =
      let still = read_quiet k.device reads in
      let starts = reads.carries.starts mounts.live in
      let config : k.device.config ≡ its =
      ap (λ (t : DeviceState F). t.config) reads.stays ∙ mounts.config in
      record {
        fits = record {
          usable = keys.1;
          config = config;
          check = check ∙ ap (λ (x : Shape). Ok x) (sym still.still.shape);
          live = reads.carries.lives ∙ mounts.live;
          keys = keys.0;
          always = subst (λ (p : Protocol). HoldsAlways state p k.device) (sym rule) always;
        };
        machine = ap (λ (t : DeviceState F). t.machine) reads.stays ∙ mounts.machine;
        seen = λ seen most.
            opened_seen seen (records_in its.protocol (state old).image) its.logical k.device
            (ap (λ (t : DeviceState F). t.noted.mentions) reads.stays
            ∙ ap (λ (n : IndexState). n.mentions) mounts.tables.noted_is)
            (ap (λ (t : DeviceState F). t.namings) reads.stays ∙ mounts.namings)
            (λ page ge. always.beyond page
            (subst (λ (c : Config). c.logical ≤ page) (sym config) ge)) most;
        still = still;
        reads = (starts.1, starts.3 ∙ ap (counted_times starts.1) mounts.reads);
        carries = Carries-then (powered (state old)) (state s.flash) (state k.device.flash) false mounts.carries
            reads.carries;
      }

-- there is no device
pub refused : (its : Config) (old new : FlashState) (e : NotMounted Refusal) →
    FailsToMount (device.IsWhy its old) old new e → FailsToMount (IsWhy its old) old new (refused_device e)
refused its old new fails.Fault h = h
refused its old new (fails.Refused (refusal.Unsound law slot)) h = record { cause = h.cause; still = h.still }
refused its old new (fails.Refused refusal.Memory) h = record { cause = tt; still = h.still }
