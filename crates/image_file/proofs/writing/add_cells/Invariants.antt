use Rattle.image_file.proofs.Common.{◌≡◌, ◌++◌, take, flat_map, cell_of}
use Rattle.image_file.proofs.writing.add_cells.Given as goal

abbrev pub invariant-loop-slot : goal.invariant-loop-slot
invariant-loop-slot l = l.bytes.items ≡ l.fn.bytes.items ++ flat_map (cell_of l.flash.shape.page_bytes)
    (take l.slot l.flash.image)
