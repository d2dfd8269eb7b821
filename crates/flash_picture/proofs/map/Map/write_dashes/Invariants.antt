use Rattle.flash_picture.proofs.Common.{◌≡◌, ◌++◌, flat_map, range_with_len}
use Rattle.flash_picture.specs.OverviewSvg.{dash_if}
use Rattle.flash_picture.proofs.map.Map.write_dashes.Given as goal

abbrev pub invariant-loop-at : goal.invariant-loop-at
invariant-loop-at l =
    l.text.items ≡ l.initial.text.items
    ++ flat_map (dash_if l.self.shape l.self.cells.now l.block.0 l.kind) (range_with_len 0 l.at)
