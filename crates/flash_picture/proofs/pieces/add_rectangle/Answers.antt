use Rattle.flash_picture.specs.Pieces.{rectangle}
use Rattle.flash_picture.proofs.Texts.{and_then}
use Rattle.flash_picture.proofs.pieces.add_rectangle.Goals as goal

pub returns : goal.returns
unfolding rectangle
returns c =
    let old = c.args.text.now.items in
    and_then old _ _ _ _ _ _ _
    (and_then old _ _ _ _ _ _ _
    (and_then old _ _ _ _ _ _ _
    (and_then old _ _ _ _ _ _ _ c.add.ensures c.add_place.ensures c.and.ensures)
    c.add_attribute.ensures c.and-2.ensures)
    c.add_attribute-2.ensures c.and-3.ensures)
    c.add-2.ensures c.and-4.ensures
