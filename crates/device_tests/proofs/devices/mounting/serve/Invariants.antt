use Rattle.std.proofs.Common.{◌≡◌, false}
use Rattle.device_tests.proofs.devices.mounting.serve.Given as goal

abbrev pub invariant-loop-call : goal.invariant-loop-call
invariant-loop-call g l = l.device.dropped ≡ false
