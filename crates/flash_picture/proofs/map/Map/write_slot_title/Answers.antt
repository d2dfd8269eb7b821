use Rattle.flash_picture.proofs.Common.{ap}
use Rattle.flash_picture.specs.Svg.{links_text}
use Rattle.flash_picture.proofs.Texts.{and_then, with_piece}
use Rattle.flash_picture.proofs.map.Map.write_slot_title.Goals as goal

pub returns : goal.returns
returns c =
    let old = c.args.text.now.items in
    and_then old _ _ _ _ _ _ _
    (and_then old _ _ _ _ _ _ _
    (and_then old _ _ _ _ _ _ _
    (and_then old _ _ _ _ _ _ _ c.add.ensures c.add_count.ensures c.and.ensures)
    c.add-2.ensures c.and-2.ensures)
    c.write_slot.ensures c.and-3.ensures)
    (with_piece _ _ _ _ _ (ap links_text c.cell.ensures) c.write_links.ensures) c.and-4.ensures
