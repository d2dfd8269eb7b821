use Rattle.flash_picture.proofs.Texts.{and_then}
use Rattle.flash_picture.proofs.map.Map.write_row_words.Goals as goal

pub returns : goal.returns
returns c =
    let old = c.args.text.now.items in
    and_then old _ _ _ _ _ _ _ c.write_label_words.ensures c.write_block_counts.ensures c.and.ensures
