use Rattle.flash_picture.proofs.Common.{◌++◌, ap, codes}
use Rattle.std.specs.Fmt.{decimal}
use Rattle.flash_picture.proofs.Texts.{and_then, with_piece}
use Rattle.flash_picture.proofs.picture.write_law.Goals as goal

pub returns : goal.returns
returns c =
    let old = c.args.text.now.items in
    and_then old _ _ _ _ _ _ _
    (and_then old _ _ _ _ _ _ _ c.add.ensures
    (with_piece _ _ _ _ _ (ap (λ n. decimal n ++ codes " slot ") c.from.ensures) c.write_count.ensures)
    c.and.ensures)
    c.write_count-2.ensures c.and-2.ensures
