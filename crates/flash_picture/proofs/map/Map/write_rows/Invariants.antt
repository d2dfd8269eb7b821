use Rattle.flash_picture.proofs.Common.{◌≡◌, ◌++◌, flat_map, range_with_len}
use Rattle.flash_picture.specs.Overview.{row_text}
use Rattle.flash_picture.proofs.map.Map.write_rows.Given as goal

abbrev pub invariant-loop-block : goal.invariant-loop-block
invariant-loop-block l =
    l.text.items ≡ l.initial.text.items
    ++ flat_map (row_text l.self.shape l.self.cells.now l.self.marks) (range_with_len 0 l.block)
