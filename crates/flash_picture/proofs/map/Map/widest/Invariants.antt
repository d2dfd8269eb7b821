use Rattle.flash_picture.proofs.Common.{◌≡◌, ◌<◌}
use Rattle.std.proofs.Common.{◌^◌}
use Rattle.flash_picture.specs.Map.{widest}
use Rattle.flash_picture.proofs.map.Map.widest.Given as goal

abbrev pub invariant-loop-slot : goal.invariant-loop-slot
invariant-loop-slot l = (l.width ≡ widest l.self.cells.now l.self.marks l.slot) × (l.width < 2 ^ 63)
