use Rattle.flash_picture.proofs.Texts.{and_then}
use Rattle.flash_picture.proofs.walk.write_line.Goals as goal

pub returns : goal.returns
returns c =
    let old = c.args.text.now.items in
    and_then old _ _ _ _ _ _ _
    (and_then old _ _ _ _ _ _ _
    (and_then old _ _ _ _ _ _ _ c.write_start.ensures c.write_steps.ensures c.and.ensures)
    c.write.ensures c.and-2.ensures)
    c.add.ensures c.and-3.ensures
