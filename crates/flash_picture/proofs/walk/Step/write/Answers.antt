use Rattle.flash_picture.proofs.Common.{ap, sym}
use Rattle.flash_picture.specs.Walks.{step_text}
use Rattle.flash_picture.proofs.Texts.{and_then, with_piece}
use Rattle.flash_picture.proofs.walk.Step.write.Goals as goal

pub returns-in-To : goal.returns-in-To
returns-in-To c =
    let old = c.args.text.now.items in
    with_piece old _ _ _ _ (ap step_text (sym c.in-To.is))
    (and_then old _ _ _ _ _ _ _ c.add.ensures c.add_name.ensures c.and.ensures)
