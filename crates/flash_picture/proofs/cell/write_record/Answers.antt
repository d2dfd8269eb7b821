use Rattle.flash_picture.proofs.Common.{◌∙◌, [], ◌∷◌, ◌++◌, ap, append_assoc, codes, name_of, name_word, sym, word_if}
use Rattle.std.proofs.lemmas.List.Concat.{flat_map-append}
use Rattle.flash_picture.specs.Cells.{after_spaces, rank_word}
use Rattle.flash_picture.proofs.Texts.{and_then, joined, with_piece}
use Rattle.flash_picture.proofs.cell.write_record.Goals as goal

pub returns : goal.returns
returns c =
    let old = c.args.text.now.items in
    let name = name_word (name_of c.args.rec) in
    let rank = rank_word c.args.rank ∷ [] in
    let held = word_if c.args.held (codes "held") in
    let discard = word_if c.args.rec.discard (codes "discard") in
    with_piece old _ _ _ _
    (append_assoc (name ++ after_spaces rank) (after_spaces held) (after_spaces discard)
    ∙ ap (λ t. (name ++ after_spaces rank) ++ t) (sym (flat_map-append (λ w. 32 ∷ w) held discard))
    ∙ append_assoc name (after_spaces rank) (after_spaces (held ++ discard))
    ∙ ap (λ t. name ++ t) (sym (flat_map-append (λ w. 32 ∷ w) rank (held ++ discard)))
    ∙ sym (joined name (rank ++ (held ++ discard))))
    (and_then old _ _ _ _ _ _ _
    (and_then old _ _ _ _ _ _ _
    (and_then old _ _ _ _ _ _ _ (with_piece _ _ _ _ _ (ap name_word c.name.ensures) c.add_name.ensures)
    c.write.ensures c.and.ensures)
    c.write_flag.ensures c.and-2.ensures)
    c.write_flag-2.ensures c.and-3.ensures)
