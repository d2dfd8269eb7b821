use Rattle.flash_picture.specs.Pieces.{group_begin}
use Rattle.flash_picture.proofs.Texts.{and_then}
use Rattle.flash_picture.proofs.svg_map.Plan.open_visible_arrow.Goals as goal

pub returns : goal.returns
unfolding group_begin
returns c =
    let old = c.args.text.now.items in
    and_then old _ _ _ _ _ _ _
    (and_then old _ _ _ _ _ _ _ c.add.ensures c.write_slot.ensures c.and.ensures)
    c.add-2.ensures c.and-2.ensures
