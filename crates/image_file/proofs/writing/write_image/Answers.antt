use Rattle.std.proofs.Common.{rules}
use Rattle.image_file.proofs.SpellingLemmas.{written}
use Rattle.image_file.proofs.writing.write_image.Goals as goal

pub returns : goal.returns
returns c =
    written c.add_cells.new.bytes.items c.args.config.now c.args.flash.now.shape c.args.flash.now.image
    c.args.flash.now.extras c.requires
    c.shape.ensures.whole (search rules) (search rules) (search rules)
