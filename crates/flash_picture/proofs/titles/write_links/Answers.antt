use Rattle.flash_picture.proofs.Common.{ap, sym}
use Rattle.flash_picture.specs.Svg.{links_text}
use Rattle.flash_picture.proofs.Texts.{and_then, with_piece}
use Rattle.flash_picture.proofs.titles.write_links.Goals as goal

pub returns-in-Holds : goal.returns-in-Holds
returns-in-Holds c =
    let old = c.args.text.now.items in
    with_piece old _ _ _ _ (ap links_text (sym c.in-Holds.is))
    (and_then old _ _ _ _ _ _ _
    (and_then old _ _ _ _ _ _ _
    (and_then old _ _ _ _ _ _ _ c.add.ensures c.add_name.ensures c.and.ensures)
    c.add-in-Holds.ensures c.and-in-Holds.ensures)
    c.add_number.ensures c.and-in-Holds-2.ensures)
