use Rattle.flash_picture.proofs.Common.{◌≡◌, length, map, take, cell_of}
use Rattle.std.proofs.Common.{vec_capacity}
use Rattle.flash_picture.proofs.cells.cells_by.Given as goal

abbrev pub invariant-loop-note : goal.invariant-loop-note
invariant-loop-note l =
    (l.cells.items ≡ map (cell_of l.standing.protocol l.standing.list l.standing.logical) (take l.note-index l.notes))
    × (length l.cells.items ≡ l.note-index) × (vec_capacity l.cells ≡ length l.notes)
