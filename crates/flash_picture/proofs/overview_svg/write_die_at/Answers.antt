use Rattle.flash_picture.proofs.Texts.{and_then}
use Rattle.flash_picture.proofs.overview_svg.write_die_at.Goals as goal

pub returns : goal.returns
returns c =
    let old = c.args.text.now.items in
    and_then old _ _ _ _ _ _ _
    (and_then old _ _ _ _ _ _ _ c.open_words.ensures c.write_die_words.ensures c.and.ensures)
    c.add.ensures c.and-2.ensures
