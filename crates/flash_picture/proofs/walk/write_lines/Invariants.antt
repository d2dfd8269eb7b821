use Rattle.flash_picture.proofs.Common.{◌≡◌, ◌++◌, flat_map, range_with_len}
use Rattle.flash_picture.specs.Walks.{walk_text}
use Rattle.flash_picture.proofs.walk.write_lines.Given as goal

abbrev pub invariant-loop-page : goal.invariant-loop-page
invariant-loop-page l =
    l.text.items ≡ l.initial.text.items ++ flat_map (walk_text l.protocol l.chart l.logical) (range_with_len 0 l.page)
