use Rattle.flash_picture.proofs.Common.{arith, visible_arrow_svg}
use Rattle.tx_types.specs.Config.{slots_of}
use Rattle.flash_picture.proofs.Texts.{text_all, text_more, text_none}
use Rattle.flash_picture.proofs.svg_map.Plan.write_visible_arrows.Goals as goal

pub loop-slot-init : goal.loop-slot-init
loop-slot-init c =
    let p = c.args.self.now in
    text_none (visible_arrow_svg p.grid c.args.chart.now p.map.cells.now p.map.marks) c.args.text.now.items

pub loop-slot-preserved : goal.loop-slot-preserved
loop-slot-preserved c =
    let p = c.args.self.now in
    text_more (visible_arrow_svg p.grid c.args.chart.now p.map.cells.now p.map.marks) c.loop-slot.slot c.args.text.now.items
    c.loop-slot.text.items _
    c.loop-slot.invariant c.in_ok-write_visible_arrow.ensures

pub returns : goal.returns
returns c =
    let p = c.args.self.now in
    text_all (visible_arrow_svg p.grid c.args.chart.now p.map.cells.now p.map.marks) c.loop-slot.slot (slots_of p.grid.shape)
    c.args.text.now.items c.loop-slot.text.items
    c.loop-slot.invariant (omega arith)
