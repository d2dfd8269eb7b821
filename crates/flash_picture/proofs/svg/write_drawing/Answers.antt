use Rattle.flash_picture.proofs.Common.{◌∙◌, ◌++◌, ap, ap₂, height, above, lines_svg, walks_svg}
use Rattle.flash_picture.proofs.Texts.{and_then, with_piece}
use Rattle.flash_picture.proofs.svg.write_drawing.Goals as goal

pub returns : goal.returns
returns c =
    let old = c.args.text.now.items in
    let its = c.args.config in
    let plan = c.args.plan.now in
    let first = with_piece _ _ _ _ _ (ap₂ (λ w n. above its w n) c.width.ensures
    (c.height.ensures ∙ ap (height plan.grid) c.in_ok-lines.ensures.lines)) c.write_above.ensures in
    let walks = c.as_slice.ensures.value ∙ c.in_ok-lines.ensures.text
    ∙ ap (λ t. t ++ walks_svg its.protocol c.args.chart.now its.logical)
    c.requires.empty in
    let last = with_piece _ _ _ _ _ (ap (λ w. lines_svg plan.grid w plan.map.marks.breach) walks)
    c.write_lines.ensures in
    and_then old _ _ _ _ _ _ _
    (and_then old _ _ _ _ _ _ _
    (and_then old _ _ _ _ _ _ _ first c.write.ensures c.and.ensures)
    last c.and-2.ensures)
    c.add.ensures c.and-3.ensures
