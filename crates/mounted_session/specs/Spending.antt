-- How a break that was answered uses up one of those that were to come.
use Rattle.std.specs.Prelude.{ℕ, ◌+◌, ◌≤◌, Bool, if◌then◌else◌}
use Rattle.flash_model.specs.Flash.{Told}

-- A cut that was answered, or a fault, was one of those that were to come, beside so many cuts and faults that were
-- armed now.
pub record IsSpent (cut broken : Bool) (armed_cuts armed_faults : ℕ) (old new : Told) : Type 0 where
  pub cuts : (if cut then 1 else 0) + new.cuts ≤ old.cuts + armed_cuts
  pub breaks : (if broken then 1 else 0) + new.breaks ≤ old.breaks + armed_faults
