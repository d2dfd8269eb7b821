use Rattle.flash_picture.proofs.Texts.{and_then}
use Rattle.flash_picture.proofs.map.Map.write_squares.Goals as goal

pub returns : goal.returns
returns c =
    let old = c.args.text.now.items in
    and_then old _ _ _ _ _ _ _
    (and_then old _ _ _ _ _ _ _ c.write_dies.ensures c.write_square_rows.ensures c.and.ensures)
    c.write_named.ensures c.and-2.ensures
