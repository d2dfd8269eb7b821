use Rattle.flash_picture.proofs.Common.{ap, sym}
use Rattle.flash_picture.specs.Walks.{end_text}
use Rattle.flash_picture.proofs.Texts.{and_then, with_piece}
use Rattle.flash_picture.proofs.walk.End.write.Goals as goal

pub returns-in-Straddled : goal.returns-in-Straddled
returns-in-Straddled c =
    let old = c.args.text.now.items in
    with_piece old _ _ _ _ (ap end_text (sym c.in-Straddled.is))
    (and_then old _ _ _ _ _ _ _ c.add.ensures c.add_number.ensures c.and.ensures)
