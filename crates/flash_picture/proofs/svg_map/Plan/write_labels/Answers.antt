use Rattle.flash_picture.proofs.Common.{arith, label_svg}
use Rattle.tx_types.specs.Config.{blocks_of}
use Rattle.flash_picture.proofs.Texts.{text_all, text_more, text_none}
use Rattle.flash_picture.proofs.svg_map.Plan.write_labels.Goals as goal

pub loop-block-init : goal.loop-block-init
loop-block-init c =
    let p = c.args.self.now in
    text_none (label_svg p.grid p.map.marks) c.args.text.now.items

pub loop-block-preserved : goal.loop-block-preserved
loop-block-preserved c =
    let p = c.args.self.now in
    text_more (label_svg p.grid p.map.marks) c.loop-block.block c.args.text.now.items c.loop-block.text.items _
    c.loop-block.invariant c.in_ok-write_label.ensures

pub returns : goal.returns
returns c =
    let p = c.args.self.now in
    text_all (label_svg p.grid p.map.marks) c.loop-block.block (blocks_of p.grid.shape)
    c.args.text.now.items c.loop-block.text.items
    c.loop-block.invariant (omega arith)
