mod OverviewAlike
use Rattle.flash_picture.proofs.Common.{◌∙◌, ◌++◌, ap, ap₂, on_ok_weaker, shape_of}
use Rattle.flash_picture.specs.OverviewSvg.{overview_by}
use Rattle.flash_picture.proofs.overview.write_overview.Answers.OverviewAlike.{overview_drawn}
use Rattle.flash_picture.proofs.overview.write_overview.Goals as goal

pub returns : goal.returns
returns c =
    let its = c.args.config in
    let marks = c.args.marks in
    let in_svg = c.args.in_svg in
    let old = c.args.text.now.items in
    let cells = c.in_ok-noted.noted.cells.items in
    on_ok_weaker c.write_by-outcome.result
    (λ drawn. overview_drawn its c.args.notes.now marks in_svg c.in_ok-noted.noted.standing.list cells old
    _ c.in_ok-noted.ensures.sorts c.in_ok-noted.ensures.cells
    (drawn ∙ ap₂ (λ s cs. old ++ overview_by in_svg its s c.sorted_records-chart.result.now cs marks)
    c.shape.ensures.shape c.deref.ensures.value
    ∙ ap (λ l. old ++ overview_by in_svg its (shape_of its) l cells marks) c.sorted_records-chart.ensures))
    c.write_by-outcome.ensures
