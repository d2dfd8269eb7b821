use Rattle.flash_picture.proofs.Texts.{and_then, with_piece}
use Rattle.flash_picture.proofs.picture.write_heading.Goals as goal

pub returns : goal.returns
returns c =
    let old = c.args.text.now.items in
    and_then old _ _ _ _ _ _ _
    (and_then old _ _ _ _ _ _ _
    (and_then old _ _ _ _ _ _ _
    (and_then old _ _ _ _ _ _ _ (with_piece _ _ _ _ _ c.protocol_word.ensures c.add.ensures) c.add-2.ensures
    c.and.ensures)
    c.write_count.ensures c.and-2.ensures)
    c.write_count-2.ensures c.and-3.ensures)
    c.write_count-3.ensures c.and-4.ensures
