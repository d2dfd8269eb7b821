use Rattle.flash_picture.proofs.Common.{ap}
use Rattle.flash_picture.specs.Pieces.{words_begin}
use Rattle.flash_picture.proofs.Texts.{and_then, with_piece}
use Rattle.flash_picture.proofs.map.Map.write_row_label.Goals as goal

pub returns : goal.returns
returns c =
    let old = c.args.text.now.items in
    and_then old _ _ _ _ _ _ _
    (and_then old _ _ _ _ _ _ _ (with_piece _ _ _ _ _ (ap words_begin c.label_spot.ensures) c.open_words.ensures)
    c.write_label_words.ensures c.and.ensures)
    c.add.ensures c.and-2.ensures
