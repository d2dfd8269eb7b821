use Rattle.flash_picture.proofs.Texts.{and_then, with_piece}
use Rattle.flash_picture.proofs.legend.write_head.Goals as goal

pub returns : goal.returns
returns c =
    let old = c.args.text.now.items in
    and_then old _ _ _ _ _ _ _
    (and_then old _ _ _ _ _ _ _
    (and_then old _ _ _ _ _ _ _
    (and_then old _ _ _ _ _ _ _
    (and_then old _ _ _ _ _ _ _
    (and_then old _ _ _ _ _ _ _
    (and_then old _ _ _ _ _ _ _
    (and_then old _ _ _ _ _ _ _
    (and_then old _ _ _ _ _ _ _ c.add.ensures c.add_attribute.ensures c.and.ensures)
    c.add_attribute-2.ensures c.and-2.ensures)
    c.add-2.ensures c.and-3.ensures)
    c.add_number.ensures c.and-4.ensures)
    c.add-3.ensures c.and-5.ensures)
    c.add_number-2.ensures c.and-6.ensures)
    c.add-4.ensures c.and-7.ensures)
    (with_piece _ _ _ _ _ c.style.ensures c.add-5.ensures) c.and-8.ensures)
    (with_piece _ _ _ _ _ c.tip.ensures c.add-6.ensures) c.and-9.ensures
