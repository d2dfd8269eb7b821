use Rattle.desk_tasks.proofs.Common.{◌≡◌, take}
use Rattle.std.specs.List.{flat_map}
use Rattle.mem_flash.specs.Slots.{cell_of}
use Rattle.desk_tasks.proofs.kept.cells.Given as goal

abbrev pub invariant-loop-slot : goal.invariant-loop-slot
invariant-loop-slot l = l.all.items ≡ flat_map (cell_of l.flash.shape.page_bytes) (take l.slot l.flash.image)
