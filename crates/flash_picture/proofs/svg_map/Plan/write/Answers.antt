use Rattle.flash_picture.proofs.Texts.{and_then}
use Rattle.flash_picture.proofs.svg_map.Plan.write.Goals as goal

pub returns : goal.returns
returns c =
    let old = c.args.text.now.items in
    and_then old _ _ _ _ _ _ _
    (and_then old _ _ _ _ _ _ _
    (and_then old _ _ _ _ _ _ _ c.write_dies.ensures c.write_labels.ensures c.and.ensures)
    c.write_visible_arrows.ensures c.and-2.ensures)
    c.write_cells.ensures c.and-3.ensures
