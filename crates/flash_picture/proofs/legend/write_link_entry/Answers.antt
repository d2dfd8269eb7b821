use Rattle.flash_picture.specs.Svg.{link_entry}
use Rattle.flash_picture.proofs.Texts.{and_then}
use Rattle.flash_picture.proofs.legend.write_link_entry.Goals as goal

pub returns : goal.returns
unfolding link_entry
returns c =
    let old = c.args.text.now.items in
    and_then old _ _ _ _ _ _ _
    (and_then old _ _ _ _ _ _ _ c.open_group.ensures c.add_words.ensures c.and.ensures)
    c.add.ensures c.and-2.ensures
