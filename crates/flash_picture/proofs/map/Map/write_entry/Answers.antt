use Rattle.flash_picture.proofs.Common.{ap}
use Rattle.flash_picture.specs.Pieces.{group_begin}
use Rattle.flash_picture.proofs.Texts.{and_then, with_piece}
use Rattle.flash_picture.proofs.map.Map.write_entry.Goals as goal

pub returns : goal.returns
returns c =
    let old = c.args.text.now.items in
    and_then old _ _ _ _ _ _ _
    (and_then old _ _ _ _ _ _ _ (with_piece _ _ _ _ _ (ap group_begin c.word.ensures) c.open_group.ensures)
    c.write_entry_inside.ensures c.and.ensures)
    c.add.ensures c.and-2.ensures
