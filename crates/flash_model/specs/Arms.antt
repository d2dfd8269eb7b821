-- What the calls do that turn power on, and that set the arms of a flash.
use Rattle.std.specs.Prelude.{◌≡◌, ℕ, ◌+◌, ◌≤◌, true, Some}
use Rattle.flash_model.specs.declared.outcome.Arm.{Arm}
use Rattle.flash_model.specs.declared.outcome.Outcome.{Outcome}
use Rattle.flash_model.specs.Flash.{FlashState, Told}
use Rattle.flash_model.specs.Calls.{BothTell}

-- power is on, and all else is as before
abbrev pub TurnsOn : FlashState → FlashState → Type 0
TurnsOn old new = new ≡ record old { live = true }

-- one cut more may come at most, by this arm, and the other arms are as before
pub record SetsCut (arm : Arm) (old new : Told) : Type 0 where
  pub cut : new.cut ≡ Some arm
  pub fault : new.fault ≡ old.fault
  pub bad_read : new.bad_read ≡ old.bad_read
  pub cuts : new.cuts ≤ old.cuts + 1
  pub breaks : new.breaks ≤ old.breaks

-- one fault more may come at most, by this arm, and the other arms are as before
pub record SetsFault (arm : Arm) (old new : Told) : Type 0 where
  pub fault : new.fault ≡ Some arm
  pub cut : new.cut ≡ old.cut
  pub bad_read : new.bad_read ≡ old.bad_read
  pub cuts : new.cuts ≤ old.cuts
  pub breaks : new.breaks ≤ old.breaks + 1

-- one fault more may come at most, at this read, and the other arms are as before
pub record SetsBadRead (count : ℕ) (old new : Told) : Type 0 where
  pub bad_read : new.bad_read ≡ Some count
  pub cut : new.cut ≡ old.cut
  pub fault : new.fault ≡ old.fault
  pub cuts : new.cuts ≤ old.cuts
  pub breaks : new.breaks ≤ old.breaks + 1

-- only what the flash tells changes, and where it tells, it changes so
pub record ChangesTold (sets : Told → Told → Type 0) (old new : FlashState) : Type 0 where
  pub stays : new ≡ record old { told = new.told }
  pub told : BothTell sets old.told new.told

abbrev pub ArmsCut : FlashState → FlashState → ℕ → Outcome → Type 0
ArmsCut old new count outcome =
    ChangesTold (SetsCut (record { count = count; outcome = outcome })) old new

abbrev pub ArmsFault : FlashState → FlashState → ℕ → Outcome → Type 0
ArmsFault old new count outcome =
    ChangesTold (SetsFault (record { count = count; outcome = outcome })) old new

abbrev pub ArmsBadRead : FlashState → FlashState → ℕ → Type 0
ArmsBadRead old new count = ChangesTold (SetsBadRead count) old new
