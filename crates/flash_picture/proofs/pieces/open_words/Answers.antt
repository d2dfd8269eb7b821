use Rattle.flash_picture.specs.Pieces.{words_begin}
use Rattle.flash_picture.proofs.Texts.{and_then}
use Rattle.flash_picture.proofs.pieces.open_words.Goals as goal

pub returns : goal.returns
unfolding words_begin
returns c =
    let old = c.args.text.now.items in
    and_then old _ _ _ _ _ _ _
    (and_then old _ _ _ _ _ _ _ c.add.ensures c.add_place.ensures c.and.ensures)
    c.add-2.ensures c.and-2.ensures
