mod SvgAlike
use Rattle.flash_picture.proofs.Common.{◌∙◌, ◌++◌, ap, ap₂, on_ok_weaker, shape_of, drawing, grid_of}
use Rattle.flash_picture.proofs.svg.write_svg.Answers.SvgAlike.{svg_drawn}
use Rattle.flash_picture.proofs.svg.write_svg.Goals as goal

pub returns : goal.returns
returns c =
    let its = c.args.config in
    let marks = c.args.marks in
    let old = c.args.text.now.items in
    let cells = c.in_ok-noted.noted.cells.items in
    on_ok_weaker c.write_map-outcome.result
    (λ drawn. svg_drawn its c.args.notes.now marks c.in_ok-noted.noted.standing.list cells old
    _ c.in_ok-noted.ensures.sorts c.in_ok-noted.ensures.cells
    (drawn ∙ ap₂ (λ s cs. old ++ drawing its (grid_of s cs marks) c.sorted_records.result.now cs marks)
    c.shape.ensures.shape c.deref.ensures.value
    ∙ ap (λ l. old ++ drawing its (grid_of (shape_of its) cells marks) l cells marks) c.sorted_records.ensures))
    c.write_map-outcome.ensures
