use Rattle.flash_picture.proofs.Common.{ap}
use Rattle.flash_picture.specs.Pieces.{words_at}
use Rattle.flash_picture.specs.Svg.{entry}
use Rattle.flash_picture.proofs.Texts.{and_then, with_piece}
use Rattle.flash_picture.proofs.legend.write_entry.Goals as goal

pub returns : goal.returns
unfolding entry
returns c =
    let old = c.args.text.now.items in
    let words = with_piece _ _ _ _ _ (ap (λ s. words_at s c.args.says.now) c.beside.ensures) c.add_words.ensures in
    let drawn = and_then c.open_group.new.text.items _ _ _ _ _ _ _ c.add_rectangle.ensures words c.and.ensures in
    and_then old _ _ _ _ _ _ _
    (and_then old _ _ _ _ _ _ _ c.open_group.ensures drawn c.and-2.ensures)
    c.add.ensures c.and-3.ensures
