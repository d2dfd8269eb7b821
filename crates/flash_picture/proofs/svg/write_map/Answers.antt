use Rattle.flash_picture.proofs.Common.{◌∙◌, ◌++◌, ap, on_ok_weaker, drawing}
use Rattle.flash_picture.proofs.svg.write_map.Goals as goal

pub returns : goal.returns
returns c =
    let m = c.args.map.now in
    on_ok_weaker c.write_drawing-outcome.result
    (λ drawn. drawn ∙ ap (λ g. c.args.text.now.items ++ drawing c.args.config g c.args.chart.now m.cells.now m.marks)
    c.in_ok-grid.ensures.grid)
    c.write_drawing-outcome.ensures
