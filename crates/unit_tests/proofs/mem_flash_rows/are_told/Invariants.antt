use Rattle.std.proofs.Common.{◌≡◌}
use Rattle.flash_model.specs.Firing.{no_loads}
use Rattle.unit_tests.specs.declared.mem_flash_tests.TheConstants.{SHAPE}
use Rattle.unit_tests.proofs.mem_flash_rows.are_told.Given as goal

abbrev pub invariant-loop-step : goal.invariant-loop-step
invariant-loop-step l = (l.flash.shape ≡ SHAPE) × (l.flash.registers ≡ no_loads SHAPE)
