-- What mounting a flash leaves of it, and why it fails.
use Rattle.std.specs.Prelude.{◌≡◌, ◌⊎◌, ◌≤◌, true, false}
use Rattle.flash_model.specs.Calls.{BothTell, Carries, NoMoreToCome, Rose, Spends}
use Rattle.flash_model.specs.Flash.{FlashState}
use Rattle.flash_model.specs.Operations.{moment_of}
use Rattle.mounted_session.specs.declared.mounted.NotMounted.{NotMounted}
use Rattle.mounted_session.specs.declared.mounted.NotMounted.TheVariants as fails

-- moment, shape and what is told of retired blocks stay, the count of faults does not fall, and no more is to come
pub record MomentStays (old new : FlashState) : Type 0 where
  pub moment : moment_of new ≡ moment_of old
  pub shape : new.shape ≡ old.shape
  pub later : old.faults ≤ new.faults
  pub told : BothTell NoMoreToCome old.told new.told
  pub extras : new.extras ≡ old.extras

-- the flash with power on, and all else as it was
abbrev pub powered : FlashState → FlashState
powered s = record s { live = true }

-- And no fault was counted: it was read at most, once power was on, by reads of which each counts for the arms; or it
-- is as it was.
pub record StaysQuiet (old new : FlashState) : Type 0 where
  pub still : MomentStays old new
  pub quiet : new.faults ≡ old.faults
  pub reads : (new ≡ old) ⊎ Carries (powered old) new false

-- or a read met a fault, once power was on
pub record MeetsFault (old new : FlashState) : Type 0 where
  pub still : MomentStays old new
  pub rose : Rose old.faults new.faults
  pub spends : BothTell (Spends new.live) old.told new.told
  pub carries : Carries (powered old) new true

-- a flash is refused for this reason, and is as it was but for reads
pub record IsRefused {W : Type 0} (refuses : W → Type 0) (old new : FlashState) (why : W) : Type 0 where
  pub cause : refuses why
  pub still : StaysQuiet old new

abbrev pub FailsToMount : {W : Type 0} → (W → Type 0) → FlashState → FlashState → NotMounted W → Type 0
FailsToMount refuses old new fails.Fault = MeetsFault old new
FailsToMount refuses old new (fails.Refused why) = IsRefused refuses old new why

-- and this is so where a read met a fault
abbrev pub IfFault : {W : Type 0} → Type 0 → NotMounted W → Type 0
IfFault met fails.Fault = met
IfFault met (fails.Refused why) = Unit {0}
