use Rattle.flash_picture.proofs.Common.{◌∙◌, ap}
use Rattle.std.specs.Fmt.{decimal}
use Rattle.flash_picture.specs.Map.{label_word}
use Rattle.flash_picture.proofs.Texts.{and_then, with_piece}
use Rattle.flash_picture.proofs.map.Map.write_label_words.Goals as goal

pub returns : goal.returns
returns c =
    let old = c.args.text.now.items in
    let number = and_then c.add.new.text.items _ _ _ _ _ _ _ c.add-2.ensures
    (with_piece _ _ _ _ _ (ap decimal c.from.ensures) c.add_number.ensures) c.and.ensures in
    and_then old _ _ _ _ _ _ _
    (with_piece _ _ _ _ _ (c.label_word.ensures ∙ ap label_word c.is_spare.ensures) c.add.ensures)
    number c.and-2.ensures
