use Rattle.flash_picture.proofs.Common.{◌≡◌, ◌++◌, flat_map, range_with_len}
use Rattle.flash_picture.specs.Map.{block_text}
use Rattle.flash_picture.proofs.map.Map.write.Given as goal

abbrev pub invariant-loop-block : goal.invariant-loop-block
invariant-loop-block l =
    l.text.items ≡ l.initial.text.items ++ flat_map (block_text l.self.shape l.self.cells.now l.self.marks l.width)
    (range_with_len 0 l.block)
