-- What happens to the flash in a command: an arm is set, its device is mounted, and calls are made.
use Rattle.std.specs.Prelude.{◌≡◌, ◌+◌, ◌≤◌, Bool, true, false, not, MatchBool}
use Rattle.tx_types.specs.declared.config.Config.{Config}
use Rattle.flash_model.specs.Arms.{ArmsCut, ArmsFault, ArmsBadRead}
use Rattle.flash_model.specs.Calls.{Carries}
use Rattle.flash_model.specs.Flash.{FlashState, counted_times}
use Rattle.flash_model.specs.Operations.{moment_of}
use Rattle.mounted_session.specs.Mounting.{powered}
use Rattle.tx_engine.specs.Opens.{mount_reads}
use Rattle.host_protocol.specs.declared.command.Command.{Command}
use Rattle.host_protocol.specs.declared.command.Command.TheVariants as command

-- the arm of the command is set, in place of one of its kind, and nothing else of the flash changes
abbrev pub ArmsFlash : Command → FlashState → FlashState → Type 0
ArmsFlash (command.Cut count what) old new = ArmsCut old new count what
ArmsFlash (command.Fault count what) old new = ArmsFault old new count what
ArmsFlash (command.BadRead count) old new = ArmsBadRead old new count
ArmsFlash _ old new = ⊥

-- how many slots were read: those of one mount, and no more where the device was not mounted
abbrev pub ReadsOnce : Config → Bool → FlashState → FlashState → Type 0
ReadsOnce its true old new = new.reads ≡ counted_times (mount_reads its old) old.reads
ReadsOnce its false old new = new.reads ≤ old.reads + mount_reads its old

-- A mount: power is turned on where it is off, and the flash is read, as often as one mount reads it; nothing is
-- started. Where no read meets a fault the device is mounted. Where one does it is not, and nothing else is done.
pub record MountsFlash (its : Config) (up : Bool) (old new : FlashState) : Type 0 where
  pub carries : Carries (powered old) new (not up)
  pub moment : moment_of new ≡ moment_of old
  pub reads : ReadsOnce its up old new
  pub started : new.started ≡ old.started

-- the flash on which the calls of a command begin: a device that is not mounted is mounted first
abbrev pub ComesUp : Config → Bool → FlashState → FlashState → Type 0
ComesUp its up old first = MatchBool up (first ≡ old) (MountsFlash its true old first)

-- serving begins with a mount where power is on, and else with the flash alone
abbrev pub BeginsFlash : Config → FlashState → Bool → FlashState → Type 0
BeginsFlash its old up first =
    MatchBool old.live (MountsFlash its up old first) ((up ≡ false) × (first ≡ old))
