use Rattle.std.proofs.Common.{◌≡◌}
use Rattle.device_tests.proofs.building.put_all.Given as goal

abbrev pub invariant-loop-item : goal.invariant-loop-item
invariant-loop-item l = l.flash.shape ≡ l.fn.flash.shape
