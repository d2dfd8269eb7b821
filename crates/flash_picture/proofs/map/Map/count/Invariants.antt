use Rattle.flash_picture.proofs.Common.{◌≡◌, ◌≤◌}
use Rattle.flash_picture.specs.Kinds.{count_of}
use Rattle.flash_picture.proofs.map.Map.count.Given as goal

abbrev pub invariant-loop-at : goal.invariant-loop-at
invariant-loop-at l = (l.count ≡ count_of l.self.cells.now l.kind l.first l.at) × (l.count ≤ l.at)
