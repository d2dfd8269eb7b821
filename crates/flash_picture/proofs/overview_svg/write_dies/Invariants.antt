use Rattle.flash_picture.proofs.Common.{◌≡◌, ◌++◌, flat_map, range_with_len}
use Rattle.flash_picture.specs.OverviewSvg.{die_svg}
use Rattle.flash_picture.proofs.overview_svg.write_dies.Given as goal

abbrev pub invariant-loop-die : goal.invariant-loop-die
invariant-loop-die l =
    l.text.items ≡ l.initial.text.items ++ flat_map (die_svg l.shape) (range_with_len 0 l.die)
