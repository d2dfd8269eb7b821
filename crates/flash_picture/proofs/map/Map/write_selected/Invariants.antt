use Rattle.flash_picture.proofs.Common.{◌≡◌, ◌++◌, flat_map, range_with_len}
use Rattle.flash_picture.specs.Selection.{selected_line}
use Rattle.flash_picture.proofs.map.Map.write_selected.Given as goal

abbrev pub invariant-loop-slot : goal.invariant-loop-slot
invariant-loop-slot l =
    l.text.items ≡ l.initial.text.items ++ flat_map (selected_line l.self.shape l.self.cells.now l.self.marks
    l.selection) (range_with_len 0 l.slot)
