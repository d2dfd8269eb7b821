use Rattle.std.proofs.Common.{◌≡◌, false}
use Rattle.device_tests.proofs.devices.calls.finish.Given as goal

abbrev pub invariant-steps : goal.invariant-steps
invariant-steps g l = l.device.dropped ≡ false
