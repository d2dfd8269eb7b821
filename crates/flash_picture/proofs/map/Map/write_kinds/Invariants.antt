use Rattle.flash_picture.proofs.Common.{◌≡◌, ◌++◌, take, flat_map}
use Rattle.flash_picture.specs.OverviewSvg.{kind_svg}
use Rattle.flash_picture.proofs.map.Map.write_kinds.Given as goal

abbrev pub invariant-loop-kind : goal.invariant-loop-kind
invariant-loop-kind l =
    l.text.items ≡ l.initial.text.items
    ++ flat_map (kind_svg l.self.shape l.self.cells.now l.block.0) (take l.kind-index l.kinds)
