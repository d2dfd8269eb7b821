use Rattle.flash_picture.specs.Pieces.{place}
use Rattle.flash_picture.proofs.Texts.{and_then}
use Rattle.flash_picture.proofs.pieces.add_place.Goals as goal

pub returns : goal.returns
unfolding place
returns c =
    let old = c.args.text.now.items in
    and_then old _ _ _ _ _ _ _ c.add_attribute.ensures c.add_attribute-2.ensures c.and.ensures
