use Rattle.flash_picture.proofs.Common.{ap, sym}
use Rattle.flash_picture.specs.Pieces.{rectangle}
use Rattle.flash_picture.specs.OverviewSvg.{named_svg}
use Rattle.flash_picture.proofs.Texts.{and_then, with_piece}
use Rattle.flash_picture.proofs.overview_svg.write_named.Goals as goal

pub returns-in-Some : goal.returns-in-Some
returns-in-Some c =
    let old = c.args.text.now.items in
    with_piece old _ _ _ _ (ap (named_svg c.args.shape) (sym c.in-Some.is))
    (and_then old _ _ _ _ _ _ _
    (and_then old _ _ _ _ _ _ _ c.open_group.ensures
    (with_piece _ _ _ _ _ (ap (λ s. rectangle s 6 8) c.square_of.ensures) c.add_rectangle.ensures) c.and.ensures)
    c.add.ensures c.and-in-Some.ensures)
