use Rattle.flash_picture.proofs.Common.{◌≡◌, ◌++◌, flat_map, range_with_len, die_heading}
use Rattle.flash_picture.proofs.svg_map.Plan.write_dies.Given as goal

abbrev pub invariant-loop-die : goal.invariant-loop-die
invariant-loop-die l =
    l.text.items ≡ l.initial.text.items ++ flat_map (die_heading l.self.grid) (range_with_len 0 l.die)
