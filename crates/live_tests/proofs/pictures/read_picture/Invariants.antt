use Rattle.std.proofs.Common.{◌≡◌}
use Rattle.live_tests.specs.declared.pictures.TheConstants.{SHAPE}
use Rattle.live_tests.proofs.pictures.read_picture.Given as goal

abbrev pub invariant-loop-at : goal.invariant-loop-at
invariant-loop-at g l = (g.F.Flash.state l.flash).shape ≡ SHAPE
