-- A device that was just mounted, and why one was not.
use Rattle.std.specs.Prelude.{◌≡◌, ℕ, ◌+◌, ◌*◌, ◌≤◌, true, false, []}
use Rattle.tx_types.specs.Config.{shape_of, slots_of}
use Rattle.tx_types.specs.declared.config.Config.{Config}
use Rattle.flash_model.specs.Flash.{FlashState, counted_times}
use Rattle.flash_model.specs.Calls.{Carries}
use Rattle.flash_model.specs.Operations.{moment_of}
use Rattle.judged_records.specs.Images.{array_in, records_in, IsLeastImageBreach}
use Rattle.scan_recovery.specs.Opening.{IsOpened}
use Rattle.scan_recovery.specs.Recovered.{reads_again}
use Rattle.scan_recovery.specs.Twins.{compared}
use Rattle.collector.specs.declared.unsure.Unsure.TheVariants as unsure
use Rattle.array_machine.specs.ArrayState.{idle}
use Rattle.tx_engine.specs.DeviceState.{DeviceState}
use Rattle.tx_engine.specs.StoreState.{StoreState}
use Rattle.tx_engine.specs.declared.device.MountError.{MountError}
use Rattle.tx_engine.specs.declared.device.MountError.TheVariants as mount

-- how many slots a mount reads of which no read fails: each one once, and two for each record that is compared with
-- another one of its name
abbrev pub mount_reads : Config → FlashState → ℕ
mount_reads its s = slots_of s.shape + 2 * compared (records_in its.protocol s.image)

-- The device stands for the array of the image, with nothing open. Its tables are those of the image, and it is not
-- dropped. No operation was started.
pub record Mounts {F : Type 0} (state : F → FlashState) (flash : F) (its : Config)
    (s : DeviceState F) : Type 0 where
  pub config : s.config ≡ its
  pub machine : s.machine ≡ idle (array_in its.protocol its.logical (state flash).image)
  pub namings : s.namings ≡ []
  pub unsure : s.unsure ≡ unsure.Nothing
  pub tables : IsOpened its (state flash).image s.noted s.table
  pub moment : moment_of (state s.flash) ≡ moment_of (state flash)
  pub reads : (state s.flash).reads ≡ counted_times (mount_reads its (state flash)) (state flash).reads
  pub started : (state s.flash).started ≡ (state flash).started
  pub carries : Carries (state flash) (state s.flash) false
  pub kept : s.dropped ≡ false

-- A flash that was not mounted comes back as it was: a read was broken, or its image is not sound, or memory ran out.
abbrev pub FailsToMount : {F : Type 0} → (F → FlashState) → F → Config → F → MountError → Type 0
FailsToMount state flash its new mount.Fault =
    (moment_of (state new) ≡ moment_of (state flash)) × Carries (state flash) (state new) true
FailsToMount state flash its new (mount.Unsound law slot) =
    (moment_of (state new) ≡ moment_of (state flash)) × Carries (state flash) (state new) false
    × IsLeastImageBreach its.protocol its.logical (shape_of its) (state flash).image
    (record { law = law; slot = slot })
FailsToMount state flash its new mount.Memory =
    (moment_of (state new) ≡ moment_of (state flash)) × Carries (state flash) (state new) false

-- How many slots were read of a flash that was not mounted: where its image is not sound, as many as tell so, and else
-- no more than a mount reads.
abbrev pub ReadsUnmounted : {F : Type 0} → (F → FlashState) → F → Config → F → MountError → Type 0
ReadsUnmounted state flash its new mount.Fault =
    (state new).reads ≤ (state flash).reads + mount_reads its (state flash)
ReadsUnmounted state flash its new (mount.Unsound law slot) =
    (state new).reads ≡ counted_times (slots_of (state flash).shape
    + reads_again (records_in its.protocol (state flash).image) (record { law = law; slot = slot }))
    (state flash).reads
ReadsUnmounted state flash its new mount.Memory =
    (state new).reads ≤ (state flash).reads + mount_reads its (state flash)

-- The tables are those of the image, which stays.
pub record StoresOpened {F : Type 0} (state : F → FlashState) (flash : F) (its : Config)
    (s : StoreState F) : Type 0 where
  pub tables : IsOpened its (state flash).image s.noted s.table
  pub unsure : s.unsure ≡ unsure.Nothing
  pub moment : moment_of (state s.flash) ≡ moment_of (state flash)
  pub reads : (state s.flash).reads ≡ counted_times (mount_reads its (state flash)) (state flash).reads
  pub started : (state s.flash).started ≡ (state flash).started
  pub carries : Carries (state flash) (state s.flash) false
