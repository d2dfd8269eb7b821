use Rattle.flash_picture.proofs.Common.{◌≡◌, ◌++◌, flat_map, range_with_len, visible_arrow_svg}
use Rattle.flash_picture.proofs.svg_map.Plan.write_visible_arrows.Given as goal

abbrev pub invariant-loop-slot : goal.invariant-loop-slot
invariant-loop-slot l =
    l.text.items ≡ l.initial.text.items ++ flat_map (visible_arrow_svg l.self.grid l.chart l.self.map.cells.now
    l.self.map.marks) (range_with_len 0 l.slot)
