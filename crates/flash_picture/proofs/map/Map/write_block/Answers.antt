use Rattle.flash_picture.proofs.Texts.{and_then}
use Rattle.flash_picture.proofs.map.Map.write_block.Goals as goal

pub returns : goal.returns
returns c =
    let old = c.args.text.now.items in
    and_then old _ _ _ _ _ _ _
    (and_then old _ _ _ _ _ _ _ c.write_die.ensures c.write_cells.ensures c.and.ensures)
    c.add.ensures c.and-2.ensures
