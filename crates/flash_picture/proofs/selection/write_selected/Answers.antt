mod SelectedAlike
use Rattle.flash_picture.proofs.Common.{◌∙◌, ◌++◌, ap, ap₂, on_ok_weaker, shape_of}
use Rattle.flash_picture.specs.Selection.{selected_parts}
use Rattle.flash_picture.proofs.selection.write_selected.Answers.SelectedAlike.{selected_drawn}
use Rattle.flash_picture.proofs.selection.write_selected.Goals as goal

pub returns : goal.returns
returns c =
    let its = c.args.config in
    let marks = c.args.marks in
    let selection = c.args.selection in
    let old = c.args.text.now.items in
    let cells = c.in_ok-noted.noted.cells.items in
    on_ok_weaker c.write_parts-outcome.result
    (λ drawn. selected_drawn its c.args.notes.now marks selection c.in_ok-noted.noted.standing.list cells old
    _ c.in_ok-noted.ensures.sorts c.in_ok-noted.ensures.cells
    (drawn ∙ ap₂ (λ s cs. old ++ selected_parts its s c.sorted_records-chart.result.now cs marks selection)
    c.shape.ensures.shape c.deref.ensures.value
    ∙ ap (λ l. old ++ selected_parts its (shape_of its) l cells marks selection) c.sorted_records-chart.ensures))
    c.write_parts-outcome.ensures
