use Rattle.flash_picture.proofs.Common.{ap₂, ap, sym}
use Rattle.flash_picture.specs.Cells.{slot_text}
use Rattle.flash_picture.specs.Pieces.{curve}
use Rattle.flash_picture.specs.Svg.{visible_arrow_to}
use Rattle.flash_picture.proofs.Texts.{and_then, with_piece}
use Rattle.flash_picture.proofs.svg_map.Plan.write_visible_arrow_to.Goals as goal

pub returns-in-Some : goal.returns-in-Some
returns-in-Some c =
    let old = c.args.text.now.items in
    let p = c.args.self.now in
    with_piece old _ _ _ _ (ap (visible_arrow_to p.grid (slot_text p.map.cells.now p.map.marks c.args.slot.0) c.args.slot.0)
    (sym c.in-Some.is))
    (and_then old _ _ _ _ _ _ _
    (and_then old _ _ _ _ _ _ _ c.open_visible_arrow.ensures
    (with_piece _ _ _ _ _ (ap₂ curve c.spot.ensures.spot c.spot-in-Some.ensures.spot) c.add_curve.ensures) c.and.ensures)
    c.add.ensures c.and-in-Some.ensures)
