use Rattle.flash_picture.proofs.Common.{arith}
use Rattle.flash_picture.specs.Map.{cell_text}
use Rattle.flash_picture.proofs.Texts.{text_all, text_more, text_none}
use Rattle.flash_picture.proofs.map.Map.write_cells.Goals as goal

pub loop-at-init : goal.loop-at-init
loop-at-init c =
    let m = c.args.self.now in
    text_none (cell_text m.shape m.cells.now m.marks c.args.width c.args.block.0) c.args.text.now.items

pub loop-at-preserved : goal.loop-at-preserved
loop-at-preserved c =
    let m = c.args.self.now in
    text_more (cell_text m.shape m.cells.now m.marks c.args.width c.args.block.0) c.loop-at.at c.args.text.now.items
    c.loop-at.text.items _
    c.loop-at.invariant c.in_ok-write_cell.ensures

pub returns : goal.returns
returns c =
    let m = c.args.self.now in
    text_all (cell_text m.shape m.cells.now m.marks c.args.width c.args.block.0) c.loop-at.at m.shape.pages_per_block
    c.args.text.now.items c.loop-at.text.items
    c.loop-at.invariant (omega arith)
