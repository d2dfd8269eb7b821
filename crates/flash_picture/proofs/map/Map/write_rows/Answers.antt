use Rattle.flash_picture.proofs.Common.{arith}
use Rattle.flash_picture.specs.Overview.{row_text}
use Rattle.tx_types.specs.Config.{blocks_of}
use Rattle.flash_picture.proofs.Texts.{text_all, text_more, text_none}
use Rattle.flash_picture.proofs.map.Map.write_rows.Goals as goal

pub loop-block-init : goal.loop-block-init
loop-block-init c =
    let m = c.args.self.now in
    text_none (row_text m.shape m.cells.now m.marks) c.args.text.now.items

pub loop-block-preserved : goal.loop-block-preserved
loop-block-preserved c =
    let m = c.args.self.now in
    text_more (row_text m.shape m.cells.now m.marks) c.loop-block.block c.args.text.now.items c.loop-block.text.items _
    c.loop-block.invariant c.in_ok-write_row.ensures

pub returns : goal.returns
returns c =
    let m = c.args.self.now in
    text_all (row_text m.shape m.cells.now m.marks) c.loop-block.block (blocks_of m.shape)
    c.args.text.now.items c.loop-block.text.items
    c.loop-block.invariant (omega arith)
