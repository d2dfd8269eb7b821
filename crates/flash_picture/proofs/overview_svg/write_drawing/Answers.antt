use Rattle.flash_picture.proofs.Common.{◌∙◌, ◌++◌, ap, ap₂, walks_svg}
use Rattle.flash_picture.specs.OverviewSvg.{overview_above}
use Rattle.flash_picture.specs.Svg.{lines_at}
use Rattle.flash_picture.proofs.Texts.{and_then, with_piece}
use Rattle.flash_picture.proofs.overview_svg.write_drawing.Goals as goal

pub returns : goal.returns
returns c =
    let old = c.args.text.now.items in
    let its = c.args.config in
    let m = c.args.map.now in
    let first = with_piece _ _ _ _ _ (ap (overview_above its m.shape m.cells.now) c.in_ok-lines.ensures.lines)
    c.write_above.ensures in
    let walks = c.as_slice.ensures.value ∙ c.in_ok-lines.ensures.text
    ∙ ap (λ t. t ++ walks_svg its.protocol c.args.chart.now its.logical) c.requires.empty in
    let last = with_piece _ _ _ _ _ (ap₂ (λ top w. lines_at top w m.marks.breach) c.overview_bottom.ensures.bottom
    walks) c.write_below.ensures in
    and_then old _ _ _ _ _ _ _
    (and_then old _ _ _ _ _ _ _
    (and_then old _ _ _ _ _ _ _ first c.write_squares.ensures c.and.ensures)
    last c.and-2.ensures)
    c.add.ensures c.and-3.ensures
