use Rattle.flash_picture.proofs.Common.{◌∙◌, ◌++◌, ap, ap₂, cell_of, length, on_ok_weaker, shape_of, sym}
use Rattle.std.proofs.lemmas.List.{length-map}
use Rattle.tx_types.specs.Config.{slots_of}
use Rattle.flash_picture.specs.Picture.{parts}
use Rattle.flash_picture.proofs.Alike.{picture_drawn}
use Rattle.flash_picture.proofs.picture.write_picture.Goals as goal

pub returns : goal.returns
returns c =
    let its = c.args.config in
    let marks = c.args.marks in
    let old = c.args.text.now.items in
    let cells = c.in_ok-noted.noted.cells.items in
    on_ok_weaker c.write_parts-outcome.result
    (λ drawn. picture_drawn its c.args.notes.now marks c.in_ok-noted.noted.standing.list cells old
    _ c.in_ok-noted.ensures.sorts c.in_ok-noted.ensures.cells
    (drawn ∙ ap₂ (λ s cs. old ++ parts its s c.sorted_records.result.now cs marks) c.shape.ensures.shape
    c.deref.ensures.value
    ∙ ap (λ l. old ++ parts its (shape_of its) l cells marks) c.sorted_records.ensures))
    c.write_parts-outcome.ensures

pub write_parts-outcome-requires-clause-cells : goal.write_parts-outcome-requires-clause-cells
write_parts-outcome-requires-clause-cells c =
    let its = c.args.config in
    ap length (c.deref.ensures.value ∙ c.in_ok-noted.ensures.cells)
    ∙ length-map c.args.notes.now (cell_of its.protocol c.in_ok-noted.noted.standing.list its.logical)
    ∙ c.requires.whole ∙ ap slots_of (sym c.shape.ensures.shape)
