use Rattle.flash_picture.proofs.Common.{ap₂}
use Rattle.flash_picture.specs.Svg.{head}
use Rattle.flash_picture.proofs.Texts.{and_then, with_piece}
use Rattle.flash_picture.proofs.map.Map.write_above.Goals as goal

pub returns : goal.returns
returns c =
    let old = c.args.text.now.items in
    and_then old _ _ _ _ _ _ _
    (and_then old _ _ _ _ _ _ _
    (and_then old _ _ _ _ _ _ _ (with_piece _ _ _ _ _ (ap₂ head c.overview_width.ensures c.overview_height.ensures)
    c.write_head.ensures) (with_piece _ _ _ _ _ c.overview_style.ensures c.add.ensures) c.and.ensures)
    c.write_first.ensures c.and-2.ensures)
    c.write_entries.ensures c.and-3.ensures
