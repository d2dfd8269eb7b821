use Rattle.std.proofs.Common.{◌≡◌}
use Rattle.live_tests.specs.declared.pictures.TheConstants.{SHAPE}
use Rattle.live_tests.proofs.running.are_taken.Given as goal

abbrev pub invariant-loop-step : goal.invariant-loop-step
invariant-loop-step l = (l.flash.memory.shape ≡ SHAPE) × (l.twin.shape ≡ SHAPE)
