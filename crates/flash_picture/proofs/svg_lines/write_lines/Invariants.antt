use Rattle.flash_picture.proofs.Common.{◌≡◌, ◌≤◌, ◌++◌, flat_map, range_with_len, walk_svg, walks_take}
use Rattle.std.proofs.Common.{◌*◌}
use Rattle.flash_picture.proofs.svg_lines.write_lines.Given as goal

abbrev pub invariant-loop-page : goal.invariant-loop-page
invariant-loop-page l =
    (l.text.items ≡ l.initial.text.items ++ flat_map (walk_svg l.protocol l.chart l.logical) (range_with_len 0 l.page))
    × (l.lines ≡ walks_take l.protocol l.chart l.logical l.page) × (l.lines ≤ 19 * l.page)
