-- Reading slots to find out what they hold: nothing changes but the counts of reads and of faults.
use Rattle.std.specs.Prelude.{◌≡◌, ◌≤◌, ℕ, Bool}
use Rattle.std.specs.Bool.{OnTrue, OnFalse}
use Rattle.flash_model.specs.Flash.{FlashState, counted_times}
use Rattle.flash_model.specs.Calls.{Carries}
use Rattle.flash_model.specs.Operations.{moment_of}

-- a count of reads once this many slots were read, or fewer
abbrev pub ReadsAtMost : ℕ → ℕ → ℕ → Type 0
ReadsAtMost count old new = (fewer : ℕ) × (fewer ≤ count) × (new ≡ counted_times fewer old)

-- this many slots are read, or fewer where one of them can't be read
pub record Looks (old new : FlashState) (count : ℕ) (broken : Bool) : Type 0 where
  pub moment : moment_of new ≡ moment_of old
  pub carries : Carries old new broken
  pub all : OnFalse broken (new.reads ≡ counted_times count old.reads)
  pub some : OnTrue broken (ReadsAtMost count old.reads new.reads)
