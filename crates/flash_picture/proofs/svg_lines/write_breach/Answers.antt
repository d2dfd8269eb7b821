use Rattle.flash_picture.proofs.Common.{ap, sym}
use Rattle.flash_picture.specs.Svg.{breach_svg}
use Rattle.flash_picture.proofs.Texts.{and_then, with_piece}
use Rattle.flash_picture.proofs.svg_lines.write_breach.Goals as goal

pub returns-in-Some : goal.returns-in-Some
returns-in-Some c =
    let old = c.args.text.now.items in
    with_piece old _ _ _ _ (ap breach_svg (sym c.in-Some.is))
    (and_then old _ _ _ _ _ _ _
    (and_then old _ _ _ _ _ _ _ c.open_line.ensures c.write_law.ensures c.and.ensures)
    c.add.ensures c.and-in-Some.ensures)
