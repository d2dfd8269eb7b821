use Rattle.flash_picture.proofs.Common.{◌≡◌, ◌++◌, take, flat_map}
use Rattle.flash_picture.specs.OverviewSvg.{count_words}
use Rattle.flash_picture.proofs.map.Map.write_block_counts.Given as goal

abbrev pub invariant-loop-kind : goal.invariant-loop-kind
invariant-loop-kind l =
    l.text.items ≡ l.initial.text.items
    ++ flat_map (count_words l.self.shape l.self.cells.now l.block.0) (take l.kind-index l.kinds)
