use Rattle.flash_picture.proofs.Texts.{and_then, with_piece}
use Rattle.flash_picture.proofs.map.Map.write_kind.Goals as goal

pub returns : goal.returns
returns c =
    let old = c.args.text.now.items in
    and_then old _ _ _ _ _ _ _
    (and_then old _ _ _ _ _ _ _
    (and_then old _ _ _ _ _ _ _
    (and_then old _ _ _ _ _ _ _ c.add.ensures (with_piece _ _ _ _ _ c.word.ensures c.add-2.ensures) c.and.ensures)
    c.add-3.ensures c.and-2.ensures)
    c.write_dashes.ensures c.and-3.ensures)
    c.add-4.ensures c.and-4.ensures
