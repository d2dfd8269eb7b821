use Rattle.flash_picture.proofs.Texts.{and_then}
use Rattle.flash_picture.proofs.map.begin_line.Goals as goal

pub returns : goal.returns
returns c =
    and_then c.args.text.now.items _ _ _ _ _ _ _ c.add.ensures c.add_spaces.ensures c.and.ensures
