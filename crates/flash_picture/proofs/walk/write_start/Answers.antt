use Rattle.flash_picture.proofs.Texts.{and_then}
use Rattle.flash_picture.proofs.walk.write_start.Goals as goal

pub returns : goal.returns
returns c =
    let old = c.args.text.now.items in
    and_then old _ _ _ _ _ _ _ c.add.ensures c.add_name.ensures c.and.ensures
