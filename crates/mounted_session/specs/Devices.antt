-- A device that was mounted on a flash, and why none was.
use mathlib.Core.Logic.{inr}
use Rattle.std.specs.Prelude.{◌≡◌, ◌+◌, ◌≤◌, true, false, []}
use Rattle.tx_types.specs.Config.{shape_of}
use Rattle.tx_types.specs.declared.config.Config.{Config}
use Rattle.flash_model.specs.Calls.{Carries}
use Rattle.flash_model.specs.Flash.{FlashState, counted_times}
use Rattle.judged_records.specs.Images.{IsLeastImageBreach, array_in}
use Rattle.scan_recovery.specs.Opening.{IsOpened}
use Rattle.collector.specs.declared.unsure.Unsure.TheVariants as unsure
use Rattle.array_machine.specs.ArrayState.{idle}
use Rattle.tx_engine.specs.Always.{HoldsAlways}
use Rattle.tx_engine.specs.DeviceState.{DeviceState}
use Rattle.tx_engine.specs.Opens.{mount_reads}
use Rattle.tx_engine.specs.declared.device.MountError.{MountError}
use Rattle.tx_engine.specs.declared.device.MountError.TheVariants as mount
use Rattle.mounted_session.specs.Mounting.{MomentStays, StaysQuiet, powered}
use Rattle.mounted_session.specs.declared.device.Refusal.{Refusal}
use Rattle.mounted_session.specs.declared.device.Refusal.TheVariants as refusal
use Rattle.mounted_session.specs.declared.mounted.NotMounted.{NotMounted}
use Rattle.mounted_session.specs.declared.mounted.NotMounted.TheVariants as fails

-- the device of a flash, with nothing open, by the reads of one mount, which starts nothing
pub record MountsIn {F : Type 0} (state : F → FlashState) (its : Config) (flash : F)
    (s : DeviceState F) : Type 0 where
  pub config : s.config ≡ its
  pub live : (state s.flash).live ≡ true
  pub machine : s.machine ≡ idle (array_in its.protocol its.logical (state flash).image)
  pub namings : s.namings ≡ []
  pub unsure : s.unsure ≡ unsure.Nothing
  pub tables : IsOpened its (state flash).image s.noted s.table
  pub still : MomentStays (state flash) (state s.flash)
  pub quiet : (state s.flash).faults ≡ (state flash).faults
  pub reads : (state s.flash).reads ≡ counted_times (mount_reads its (state flash)) (state flash).reads
  pub started : (state s.flash).started ≡ (state flash).started
  pub carries : Carries (powered (state flash)) (state s.flash) false
  pub always : HoldsAlways state its.protocol s

-- so the flash was read at most
abbrev pub mounts_quiet : {F : Type 0} (state : F → FlashState) (its : Config) (flash : F) (s : DeviceState F) →
    MountsIn state its flash s → StaysQuiet (state flash) (state s.flash)
mounts_quiet state its flash s h = record { still = h.still; quiet = h.quiet; reads = inr h.carries }

-- why a flash is refused: by its image, or for want of memory
abbrev pub IsWhy : Config → FlashState → Refusal → Type 0
IsWhy its s (refusal.Unsound law slot) =
    IsLeastImageBreach its.protocol its.logical (shape_of its) s.image
    (record { law = law; slot = slot })
IsWhy its s refusal.Memory = Unit {0}

abbrev pub not_mounted : MountError → NotMounted Refusal
not_mounted mount.Fault = fails.Fault
not_mounted (mount.Unsound law slot) = fails.Refused (refusal.Unsound law slot)
not_mounted mount.Memory = fails.Refused refusal.Memory

-- a mount that met a fault read no more than a mount does, and started nothing
pub record ReadsFew (its : Config) (old new : FlashState) : Type 0 where
  pub reads : new.reads ≤ old.reads + mount_reads its old
  pub started : new.started ≡ old.started
