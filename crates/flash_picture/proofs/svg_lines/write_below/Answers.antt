use Rattle.flash_picture.proofs.Texts.{and_then}
use Rattle.flash_picture.proofs.svg_lines.write_below.Goals as goal

pub returns : goal.returns
returns c =
    let old = c.args.text.now.items in
    and_then old _ _ _ _ _ _ _
    (and_then old _ _ _ _ _ _ _
    (and_then old _ _ _ _ _ _ _
    (and_then old _ _ _ _ _ _ _
    (and_then old _ _ _ _ _ _ _ c.add.ensures c.add_attribute.ensures c.and.ensures)
    c.add-2.ensures c.and-2.ensures)
    c.add-3.ensures c.and-3.ensures)
    c.write_breach.ensures c.and-4.ensures)
    c.add-4.ensures c.and-5.ensures
