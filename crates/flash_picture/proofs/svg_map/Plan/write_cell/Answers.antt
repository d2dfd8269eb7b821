use Rattle.flash_picture.proofs.Common.{◌∙◌, ◌++◌, ap, ap₂, codes, slot_text, arrow_svg}
use Rattle.flash_picture.specs.Grid.{cell_width, spot_of}
use Rattle.flash_picture.specs.Pieces.{beside, group_begin, rectangle, title, words_begin}
use Rattle.flash_picture.specs.Svg.{slot_title}
use Rattle.flash_picture.proofs.Texts.{and_then, closed_last, with_piece}
use Rattle.flash_picture.proofs.svg_map.Plan.write_cell.Goals as goal

pub returns : goal.returns
returns c =
    let old = c.args.text.now.items in
    let p = c.args.self.now in
    let slot = c.args.slot.0 in
    let cells = p.map.cells.now in
    let words = slot_text cells p.map.marks slot in
    let begun = c.open_group.new.text.items in
    let stands = c.spot-spot.ensures.spot in
    let box = with_piece _ _ _ _ _ (ap₂ (λ s width. rectangle s width 24) (c.beside.ensures
    ∙ ap (λ s. beside s 0 10) stands) c.cell_width.ensures) c.add_rectangle.ensures in
    let place = with_piece _ _ _ _ _ (ap (λ s. words_begin s) (c.beside-2.ensures ∙ ap (λ s. beside s 8 26) stands))
    c.open_words.ensures in
    let said = and_then c.add_rectangle.new.text.items _ _ _ _ _ _ _ place c.write_slot.ensures c.and-3.ensures in
    let shown = and_then begun _ _ _ _ _ _ _ c.write_title.ensures c.write_arrow.ensures c.and.ensures in
    let inside = and_then begun _ _ _ _ _ _ _
    (and_then begun _ _ _ _ _ _ _ shown box c.and-2.ensures)
    said c.and-4.ensures in
    with_piece old _ _ _ _
    (closed_last (group_begin words)
    (title (slot_title cells p.map.marks slot) ++ arrow_svg p.grid c.args.chart.now cells slot
    ++ rectangle (beside (spot_of p.grid slot) 0 10) (cell_width p.grid) 24)
    (words_begin (beside (spot_of p.grid slot) 8 26) ++ words)
    (codes "</text>") (codes "</g>\n"))
    (and_then old _ _ _ _ _ _ _
    (and_then old _ _ _ _ _ _ _ c.open_group.ensures inside c.and-5.ensures)
    c.add.ensures c.and-6.ensures)
