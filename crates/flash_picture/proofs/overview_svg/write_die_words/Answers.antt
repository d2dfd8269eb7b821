use Rattle.flash_picture.proofs.Texts.{and_then}
use Rattle.flash_picture.proofs.overview_svg.write_die_words.Goals as goal

pub returns : goal.returns
returns c =
    let old = c.args.text.now.items in
    and_then old _ _ _ _ _ _ _ c.add.ensures c.add_count.ensures c.and.ensures
