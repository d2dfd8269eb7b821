use Rattle.flash_picture.proofs.Common.{ap}
use Rattle.std.specs.Fmt.{decimal}
use Rattle.flash_picture.proofs.Texts.{and_then, with_piece}
use Rattle.flash_picture.proofs.picture.write_count.Goals as goal

pub returns : goal.returns
returns c =
    let old = c.args.text.now.items in
    and_then old _ _ _ _ _ _ _ (with_piece _ _ _ _ _ (ap decimal c.from.ensures) c.add_number.ensures)
    c.add.ensures c.and.ensures
