use Rattle.flash_picture.proofs.Common.{ap}
use Rattle.flash_picture.specs.Pieces.{rectangle, title}
use Rattle.flash_picture.specs.Svg.{slot_title}
use Rattle.flash_picture.proofs.Texts.{and_then, with_piece}
use Rattle.flash_picture.proofs.map.Map.write_pointed_inside.Goals as goal

pub returns : goal.returns
returns c =
    let old = c.args.text.now.items in
    let m = c.args.self.now in
    and_then old _ _ _ _ _ _ _ (with_piece _ _ _ _ _ (ap (λ s. title (slot_title m.cells.now m.marks s))
    c.slot_in.ensures) c.write_title.ensures)
    (with_piece _ _ _ _ _ (ap (λ s. rectangle s 6 8) c.square_in.ensures.spot) c.add_rectangle.ensures)
    c.and.ensures
