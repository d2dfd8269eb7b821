use Rattle.flash_picture.proofs.Texts.{and_then}
use Rattle.flash_picture.proofs.map.Map.write_slot_line.Goals as goal

pub returns : goal.returns
returns c =
    let old = c.args.text.now.items in
    and_then old _ _ _ _ _ _ _
    (and_then old _ _ _ _ _ _ _
    (and_then old _ _ _ _ _ _ _ c.write_label_words.ensures c.add.ensures c.and.ensures)
    c.write_slot_title.ensures c.and-2.ensures)
    c.add-2.ensures c.and-3.ensures
