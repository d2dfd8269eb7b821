-- What a reading of several slots keeps of a flash, and how many reads it counts.
use Rattle.std.specs.Prelude.{◌≡◌, ℕ, ◌+◌, ◌≤◌, Bool, false}
use Rattle.flash_model.specs.Flash.{FlashState, counted_times}
use Rattle.flash_model.specs.Calls.{Carries}
use Rattle.flash_model.specs.Operations.{moment_of}

-- this many slots were read, none of them broken; nothing that the flash holds changed, and no operation was started
pub record ReadsAll (old new : FlashState) (count : ℕ) : Type 0 where
  pub carries : Carries old new false
  pub moment : moment_of new ≡ moment_of old
  pub reads : new.reads ≡ counted_times count old.reads
  pub started : new.started ≡ old.started

-- at most this many slots were read; nothing that the flash holds changed, and no operation was started
pub record ReadsSome (old new : FlashState) (broken : Bool) (most : ℕ) : Type 0 where
  pub carries : Carries old new broken
  pub moment : moment_of new ≡ moment_of old
  pub reads : new.reads ≤ old.reads + most
  pub started : new.started ≡ old.started
