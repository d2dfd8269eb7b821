use Rattle.std.proofs.Common.{◌≡◌, ℕ, ◌<◌, ◌≤◌}
use Rattle.flash_model.specs.Flash.{blank, slot_at}
use Rattle.device_tests.proofs.building.may_program.Given as goal

abbrev pub invariant-loop-slot : goal.invariant-loop-slot
invariant-loop-slot l = (k : ℕ) → l.fn.at.0 ≤ k → k < l.slot → slot_at l.flash.image k ≡ blank
