use Rattle.flash_picture.proofs.Common.{◌≡◌, ◌++◌, take, flat_map}
use Rattle.flash_picture.specs.OverviewSvg.{entry_svg}
use Rattle.flash_picture.proofs.map.Map.write_entries.Given as goal

abbrev pub invariant-loop-kind : goal.invariant-loop-kind
invariant-loop-kind l =
    l.text.items ≡ l.initial.text.items
    ++ flat_map (entry_svg l.self.shape l.self.cells.now) (take l.kind-index l.kinds)
