use Rattle.flash_picture.specs.Svg.{legend}
use Rattle.flash_picture.proofs.Texts.{and_then}
use Rattle.flash_picture.proofs.legend.write_legend.Goals as goal

pub returns : goal.returns
unfolding legend
returns c =
    let old = c.args.text.now.items in
    and_then old _ _ _ _ _ _ _
    (and_then old _ _ _ _ _ _ _
    (and_then old _ _ _ _ _ _ _
    (and_then old _ _ _ _ _ _ _
    (and_then old _ _ _ _ _ _ _
    (and_then old _ _ _ _ _ _ _
    (and_then old _ _ _ _ _ _ _ c.write_entry.ensures c.write_entry-2.ensures c.and.ensures)
    c.write_entry-3.ensures c.and-2.ensures)
    c.write_entry-4.ensures c.and-3.ensures)
    c.write_entry-5.ensures c.and-4.ensures)
    c.write_entry-6.ensures c.and-5.ensures)
    c.write_entry-7.ensures c.and-6.ensures)
    c.write_link_entry.ensures c.and-7.ensures
