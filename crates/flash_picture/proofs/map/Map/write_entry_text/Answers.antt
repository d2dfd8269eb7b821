use Rattle.flash_picture.proofs.Common.{◌∙◌, ap}
use Rattle.std.specs.Fmt.{decimal}
use Rattle.flash_picture.specs.Kinds.{count_of}
use Rattle.flash_picture.proofs.Texts.{and_then, with_piece}
use Rattle.flash_picture.proofs.map.Map.write_entry_text.Goals as goal

pub returns : goal.returns
returns c =
    let old = c.args.text.now.items in
    and_then old _ _ _ _ _ _ _
    (and_then old _ _ _ _ _ _ _
    (and_then old _ _ _ _ _ _ _ (with_piece _ _ _ _ _ c.word.ensures c.add.ensures)
    (with_piece _ _ _ _ _ c.line_words.ensures c.add-2.ensures) c.and.ensures)
    c.add-3.ensures c.and-2.ensures)
    (with_piece _ _ _ _ _ (ap decimal (c.count.ensures ∙ ap (count_of c.args.self.now.cells.now c.args.kind 0)
    c.slots.ensures)) c.add_number.ensures) c.and-3.ensures
