use Rattle.flash_picture.proofs.Common.{◌∙◌, ◌++◌, ap, arith, flat_map, range_with_len}
use Rattle.tx_types.specs.Config.{blocks_of}
use Rattle.flash_picture.specs.Map.{block_text}
use Rattle.flash_picture.proofs.Texts.{text_all, text_more, text_none}
use Rattle.flash_picture.proofs.map.Map.write.Goals as goal

pub loop-block-preserved : goal.loop-block-preserved
loop-block-preserved c =
    let m = c.args.self.now in
    text_more (block_text m.shape m.cells.now m.marks c.in_ok-width.width) c.loop-block.block c.args.text.now.items
    c.loop-block.text.items _
    c.loop-block.invariant c.in_ok-write_block.ensures

pub loop-block-init : goal.loop-block-init
loop-block-init c =
    let m = c.args.self.now in
    text_none (block_text m.shape m.cells.now m.marks c.in_ok-width.width) c.args.text.now.items

pub returns : goal.returns
returns c =
    let m = c.args.self.now in
    let old = c.args.text.now.items in
    text_all (block_text m.shape m.cells.now m.marks c.in_ok-width.width) c.loop-block.block (blocks_of m.shape) old
    c.loop-block.text.items c.loop-block.invariant (omega arith)
    ∙ ap (λ width. old ++ flat_map (block_text m.shape m.cells.now m.marks width) (range_with_len 0
    (blocks_of m.shape))) c.in_ok-width.ensures.width
