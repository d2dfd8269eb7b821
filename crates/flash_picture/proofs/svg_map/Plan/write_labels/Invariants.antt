use Rattle.flash_picture.proofs.Common.{◌≡◌, ◌++◌, flat_map, range_with_len, label_svg}
use Rattle.flash_picture.proofs.svg_map.Plan.write_labels.Given as goal

abbrev pub invariant-loop-block : goal.invariant-loop-block
invariant-loop-block l =
    l.text.items ≡ l.initial.text.items ++ flat_map (label_svg l.self.grid l.self.map.marks) (range_with_len 0 l.block)
