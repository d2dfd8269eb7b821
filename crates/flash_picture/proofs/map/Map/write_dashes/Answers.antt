use Rattle.flash_picture.proofs.Common.{arith}
use Rattle.flash_picture.specs.OverviewSvg.{dash_if}
use Rattle.flash_picture.proofs.Texts.{text_all, text_more, text_none}
use Rattle.flash_picture.proofs.map.Map.write_dashes.Goals as goal

pub loop-at-init : goal.loop-at-init
loop-at-init c =
    let m = c.args.self.now in
    text_none (dash_if m.shape m.cells.now c.args.block.0 c.args.kind) c.args.text.now.items

pub loop-at-preserved : goal.loop-at-preserved
loop-at-preserved c =
    let m = c.args.self.now in
    text_more (dash_if m.shape m.cells.now c.args.block.0 c.args.kind) c.loop-at.at c.args.text.now.items
    c.loop-at.text.items _
    c.loop-at.invariant c.in_ok-write_dash_if.ensures

pub returns : goal.returns
returns c =
    let m = c.args.self.now in
    text_all (dash_if m.shape m.cells.now c.args.block.0 c.args.kind) c.loop-at.at m.shape.pages_per_block
    c.args.text.now.items c.loop-at.text.items
    c.loop-at.invariant (omega arith)
