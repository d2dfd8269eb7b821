use Rattle.std.specs.Prelude.{◌*◌}
use Rattle.flash_picture.proofs.Common.{◌+◌, ◌++◌, ap, codes}
use Rattle.std.specs.Fmt.{decimal}
use Rattle.flash_picture.specs.Grid.{top_of_block}
use Rattle.flash_picture.specs.Pieces.{group_begin, words_begin}
use Rattle.flash_picture.proofs.Texts.{and_then, closed_both, with_piece}
use Rattle.flash_picture.proofs.svg_map.Plan.write_die.Goals as goal

pub returns : goal.returns
returns c =
    let old = c.args.text.now.items in
    let grid = c.args.self.now.grid in
    let top = top_of_block grid (c.args.die * grid.shape.blocks_per_die) in
    let place = with_piece _ _ _ _ _ (ap (λ top. words_begin (record { left = 8; top = top + 24 }))
    c.top_of_block-top.ensures.top) c.open_words.ensures in
    let said = and_then c.open_words.new.text.items _ _ _ _ _ _ _ c.add.ensures c.add_count.ensures c.and.ensures in
    let words = and_then c.open_group.new.text.items _ _ _ _ _ _ _ place said c.and-2.ensures in
    with_piece old _ _ _ _
    (closed_both (group_begin (codes "die"))
    (words_begin (record { left = 8; top = top + 24 }) ++ (codes "die " ++ decimal c.args.die))
    (codes "</text>") (codes "</g>\n"))
    (and_then old _ _ _ _ _ _ _
    (and_then old _ _ _ _ _ _ _ c.open_group.ensures words c.and-3.ensures)
    c.add-2.ensures c.and-4.ensures)
