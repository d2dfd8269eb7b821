use Rattle.flash_picture.specs.Svg.{above}
use Rattle.flash_picture.proofs.Texts.{and_then}
use Rattle.flash_picture.proofs.svg.write_above.Goals as goal

pub returns : goal.returns
unfolding above
returns c =
    let old = c.args.text.now.items in
    let headed = c.write_head.new.text.items in
    let first = and_then headed _ _ _ _ _ _ _
    (and_then headed _ _ _ _ _ _ _ c.open_words.ensures c.write_heading.ensures c.and.ensures)
    c.add.ensures c.and-2.ensures in
    and_then old _ _ _ _ _ _ _
    (and_then old _ _ _ _ _ _ _ c.write_head.ensures first c.and-3.ensures)
    c.write_legend.ensures c.and-4.ensures
