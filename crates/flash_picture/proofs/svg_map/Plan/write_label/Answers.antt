use Rattle.flash_picture.proofs.Common.{◌+◌, ◌++◌, ap, codes, join_with_byte}
use Rattle.flash_picture.specs.Grid.{top_of_block}
use Rattle.flash_picture.specs.Map.{label_words}
use Rattle.flash_picture.specs.Pieces.{group_begin, words_begin}
use Rattle.flash_picture.proofs.Texts.{and_then, closed_both, with_piece}
use Rattle.flash_picture.proofs.svg_map.Plan.write_label.Goals as goal

pub returns : goal.returns
returns c =
    let old = c.args.text.now.items in
    let p = c.args.self.now in
    let label = join_with_byte 32 (label_words p.map.marks c.args.block.0) in
    let place = with_piece _ _ _ _ _ (ap (λ top. words_begin (record { left = 8; top = top + 58 }))
    c.top_of_block-top.ensures.top) c.open_words.ensures in
    let words = and_then c.open_label.new.text.items _ _ _ _ _ _ _ place c.write_label_words.ensures c.and.ensures in
    with_piece old _ _ _ _
    (closed_both (group_begin label)
    (words_begin (record { left = 8; top = top_of_block p.grid c.args.block.0 + 58 }) ++ label)
    (codes "</text>") (codes "</g>\n"))
    (and_then old _ _ _ _ _ _ _
    (and_then old _ _ _ _ _ _ _ c.open_label.ensures words c.and-2.ensures)
    c.add.ensures c.and-3.ensures)
