use Rattle.flash_picture.proofs.Common.{sym, ap}
use Rattle.flash_picture.specs.OverviewSvg.{overview_by}
use Rattle.flash_picture.proofs.Texts.{with_piece}
use Rattle.flash_picture.proofs.overview.write_by.Goals as goal

pub returns-then-in_svg : goal.returns-then-in_svg
returns-then-in_svg c =
    let m = c.args.map.now in
    with_piece _ _ _ _ _ (ap (λ in_svg. overview_by in_svg c.args.config m.shape c.args.chart.now m.cells.now m.marks)
    (sym c.if-in_svg.true)) c.write_svg.ensures

pub returns-else-in_svg : goal.returns-else-in_svg
returns-else-in_svg c =
    let m = c.args.map.now in
    with_piece _ _ _ _ _ (ap (λ in_svg. overview_by in_svg c.args.config m.shape c.args.chart.now m.cells.now m.marks)
    (sym c.if-in_svg.false)) c.write_text.ensures
