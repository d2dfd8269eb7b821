-- Mounting a flash on which power was turned on.
use Rattle.std.proofs.Common.{◌≡◌, ◌+◌, ◌≤◌, Bool, true, false, List, sym, ap, ◌∙◌, subst, inr}
use Rattle.tx_types.specs.Config.{shape_of}
use Rattle.tx_types.specs.declared.config.Config.{Config}
use Rattle.tx_types.specs.declared.config.Protocol.{Protocol}
use Rattle.flash_model.specs.Arms.{TurnsOn}
use Rattle.flash_model.specs.Calls.{BothTell, Carries, NoMoreToCome, Rose, Spends}
use Rattle.flash_model.specs.Flash.{Contents, FlashState, counted_times}
use Rattle.flash_model.specs.Operations.{moment_of}
use Rattle.judged_records.specs.Images.{IsLeastImageBreach, array_in}
use Rattle.scan_recovery.specs.Opening.{IsOpened}
use Rattle.array_machine.specs.ArrayState.{idle}
use Rattle.tx_engine.specs.Always.{HoldsAlways}
use Rattle.tx_engine.specs.DeviceState.{DeviceState}
use Rattle.tx_engine.specs.Opens as engine
use Rattle.tx_engine.specs.declared.device.MountError.{MountError}
use Rattle.tx_engine.specs.declared.device.MountError.TheVariants as mount
use Rattle.mounted_session.specs.Devices.{IsWhy, MountsIn, ReadsFew, not_mounted}
use Rattle.mounted_session.specs.Mounting.{FailsToMount, IfFault, MeetsFault, MomentStays, StaysQuiet}

-- a call on the powered flash that leaves its moment
module _ (old on new : FlashState) (turned : TurnsOn old on) (moment : moment_of new ≡ moment_of on) where
  powered_still : (broken : Bool) → Carries on new broken → MomentStays old new
  powered_still broken carries = record {
    moment = moment ∙ ap moment_of turned;
    shape = carries.shape ∙ ap (λ (s : FlashState). s.shape) turned;
    later = subst (λ (s : FlashState). s.faults ≤ new.faults) turned carries.later;
    told = subst (λ (s : FlashState). BothTell NoMoreToCome s.told new.told) turned carries.no_more;
    extras = carries.extras ∙ ap (λ (s : FlashState). s.extras) turned;
  }

  powered_quiet : Carries on new false → StaysQuiet old new
  powered_quiet carries = record {
    still = powered_still false carries;
    quiet = carries.quiet ∙ ap (λ (s : FlashState). s.faults) turned;
    reads = inr (subst (λ (s : FlashState). Carries s new false) turned carries);
  }

  powered_fault : Carries on new true → MeetsFault old new
  powered_fault carries = record {
    still = powered_still true carries;
    rose = subst (λ (s : FlashState). Rose s.faults new.faults) turned carries.cause;
    spends = subst (λ (s : FlashState). BothTell (Spends new.live) s.told new.told) turned
        (carries.spends (ap (λ (s : FlashState). s.live) turned));
    carries = subst (λ (s : FlashState). Carries s new true) turned carries;
  }

module _ {F : Type 0} (state : F → FlashState) (its : Config) (old on : F)
    (turned : TurnsOn (state old) (state on)) where
  same_image : (state on).image ≡ (state old).image
  same_image = ap (λ (s : FlashState). s.image) turned

  pub powered_mounts : (protocol : Protocol) (s : DeviceState F) → its.protocol ≡ protocol →
      engine.Mounts state on its s → HoldsAlways state protocol s → MountsIn state its old s
  powered_mounts protocol s rule mounts always =
      let quiet = powered_quiet (state old) (state on) (state s.flash) turned mounts.moment mounts.carries in
      record {
        config = mounts.config;
        live = mounts.carries.lives ∙ ap (λ (x : FlashState). x.live) turned;
        machine = mounts.machine
            ∙ ap (λ (x : List Contents). idle (array_in its.protocol its.logical x)) same_image;
        namings = mounts.namings;
        unsure = mounts.unsure;
        tables = subst (λ (x : List Contents). IsOpened its x s.noted s.table) same_image mounts.tables;
        still = quiet.still;
        quiet = quiet.quiet;
        reads = subst (λ (x : FlashState).
            (state s.flash).reads ≡ counted_times (engine.mount_reads its x) x.reads) turned mounts.reads;
        started = mounts.started ∙ ap (λ (x : FlashState). x.started) turned;
        carries = subst (λ (x : FlashState). Carries x (state s.flash) false) turned mounts.carries;
        always = subst (λ (p : Protocol). HoldsAlways state p s) (sym rule) always;
      }

  pub powered_fails : (new : F) (error : MountError) → engine.FailsToMount state on its new error →
      FailsToMount (IsWhy its (state old)) (state old) (state new) (not_mounted error)
  powered_fails new mount.Fault h = powered_fault (state old) (state on) (state new) turned h.0 h.1
  powered_fails new (mount.Unsound law slot) h = record {
    cause = subst (λ (x : List Contents).
        IsLeastImageBreach its.protocol its.logical (shape_of its) x (record { law = law; slot = slot }))
        same_image h.2;
    still = powered_quiet (state old) (state on) (state new) turned h.0 h.1;
  }
  powered_fails new mount.Memory h = record {
    cause = tt;
    still = powered_quiet (state old) (state on) (state new) turned h.0 h.1;
  }

  pub powered_met : (new : F) (error : MountError) → engine.ReadsUnmounted state on its new error →
      (state new).started ≡ (state on).started →
      IfFault (ReadsFew its (state old) (state new)) (not_mounted error)
  powered_met new mount.Fault h started = record {
    reads = subst (λ (x : FlashState). (state new).reads ≤ x.reads + engine.mount_reads its x) turned h;
    started = started ∙ ap (λ (x : FlashState). x.started) turned;
  }
  powered_met new (mount.Unsound law slot) h started = tt
  powered_met new mount.Memory h started = tt
