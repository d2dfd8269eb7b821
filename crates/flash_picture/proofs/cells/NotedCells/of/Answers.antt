use Rattle.flash_picture.proofs.Common.{◌∙◌, ap, map, cell_of}
use Rattle.flash_picture.proofs.cells.NotedCells.of.Goals as goal

pub returns-in-Ok-clause-cells : goal.returns-in-Ok-clause-cells
returns-in-Ok-clause-cells c =
    c.in-Ok.ensures ∙ ap (λ s. map (cell_of s.protocol s.list s.logical) c.args.notes.now)
    c.in_ok-standing.ensures.standing
