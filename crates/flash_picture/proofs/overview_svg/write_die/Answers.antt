use Rattle.flash_picture.proofs.Common.{ap}
use Rattle.flash_picture.specs.OverviewSvg.{die_words}
use Rattle.flash_picture.specs.Pieces.{words_at}
use Rattle.flash_picture.proofs.Texts.{and_then, with_piece}
use Rattle.flash_picture.proofs.overview_svg.write_die.Goals as goal

pub returns : goal.returns
returns c =
    let old = c.args.text.now.items in
    and_then old _ _ _ _ _ _ _
    (and_then old _ _ _ _ _ _ _ c.open_group.ensures
    (with_piece _ _ _ _ _ (ap (λ s. words_at s (die_words c.args.die)) c.die_spot.ensures) c.write_die_at.ensures)
    c.and.ensures)
    c.add.ensures c.and-2.ensures
