use Rattle.flash_picture.proofs.Common.{ap}
use Rattle.std.specs.Fmt.{decimal}
use Rattle.flash_picture.proofs.Texts.{and_then, with_piece}
use Rattle.flash_picture.proofs.text.add_name.Goals as goal

pub returns : goal.returns
returns c =
    let old = c.args.text.now.items in
    let version = and_then c.add_number.new.text.items _ _ _ _ _ _ _ c.add.ensures c.add_number-2.ensures
    c.and.ensures in
    and_then old _ _ _ _ _ _ _
    (with_piece _ _ _ _ _ (ap decimal c.from.ensures) c.add_number.ensures)
    version c.and-2.ensures
