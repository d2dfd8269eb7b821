use Rattle.flash_picture.proofs.Texts.{and_then}
use Rattle.flash_picture.proofs.map.Map.write_row_inside.Goals as goal

pub returns : goal.returns
returns c =
    let old = c.args.text.now.items in
    and_then old _ _ _ _ _ _ _
    (and_then old _ _ _ _ _ _ _
    (and_then old _ _ _ _ _ _ _ c.write_row_title.ensures c.write_row_label.ensures c.and.ensures)
    c.write_kinds.ensures c.and-2.ensures)
    c.write_pointed_slots.ensures c.and-3.ensures
