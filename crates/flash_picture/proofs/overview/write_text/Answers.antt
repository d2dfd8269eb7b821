use Rattle.flash_picture.proofs.Texts.{and_then}
use Rattle.flash_picture.proofs.overview.write_text.Goals as goal

pub returns : goal.returns
returns c =
    let old = c.args.text.now.items in
    and_then old _ _ _ _ _ _ _
    (and_then old _ _ _ _ _ _ _
    (and_then old _ _ _ _ _ _ _
    (and_then old _ _ _ _ _ _ _ c.write_heading.ensures c.write_rows.ensures c.and.ensures)
    c.write_counts.ensures c.and-2.ensures)
    c.write_walks.ensures c.and-3.ensures)
    c.write_breach.ensures c.and-4.ensures
