use Rattle.flash_picture.proofs.Common.{◌≡◌, ◌++◌, flat_map, range_with_len}
use Rattle.flash_picture.specs.Overview.{sign_text}
use Rattle.flash_picture.proofs.map.Map.write_signs.Given as goal

abbrev pub invariant-loop-at : goal.invariant-loop-at
invariant-loop-at l =
    l.text.items ≡ l.initial.text.items
    ++ flat_map (sign_text l.self.shape l.self.cells.now l.self.marks l.block.0) (range_with_len 0 l.at)
