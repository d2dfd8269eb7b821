use Rattle.flash_picture.proofs.Common.{◌∙◌, ◌++◌, sym, ap, append_assoc, codes, join_with_byte, on_ok_weaker, cell_at, cell_words, is_named, slot_text, word_if}
use Rattle.flash_picture.specs.Cells.{after_spaces}
use Rattle.flash_picture.proofs.Texts.{cell_joined}
use Rattle.flash_picture.proofs.map.Map.write_slot.Goals as goal

pub returns : goal.returns
unfolding slot_text
returns c =
    let cell = cell_at c.args.self.now.cells.now c.args.slot.0 in
    let more = word_if (is_named c.args.self.now.marks.breach c.args.slot.0) (codes "!") in
    on_ok_weaker c.write_flag.result
    (λ end. end ∙ ap (λ b. c.write.new.text.items ++ after_spaces (word_if b (codes "!"))) c.is_named.ensures ∙
    ap (λ t. t ++ after_spaces more) (c.in_ok-write.ensures
    ∙ ap (λ k. c.args.text.now.items ++ join_with_byte 32 (cell_words k)) c.cell.ensures)
    ∙ append_assoc c.args.text.now.items (join_with_byte 32 (cell_words cell)) (after_spaces more)
    ∙ ap (λ t. c.args.text.now.items ++ t) (sym (cell_joined cell more)))
    c.write_flag.ensures
