use Rattle.flash_picture.proofs.Common.{arith}
use Rattle.flash_picture.specs.Selection.{selected_line}
use Rattle.tx_types.specs.Config.{slots_of}
use Rattle.flash_picture.proofs.Texts.{text_all, text_more, text_none}
use Rattle.flash_picture.proofs.map.Map.write_selected.Goals as goal

pub loop-slot-init : goal.loop-slot-init
loop-slot-init c =
    let m = c.args.self.now in
    text_none (selected_line m.shape m.cells.now m.marks c.args.selection) c.args.text.now.items

pub loop-slot-preserved : goal.loop-slot-preserved
loop-slot-preserved c =
    let m = c.args.self.now in
    text_more (selected_line m.shape m.cells.now m.marks c.args.selection) c.loop-slot.slot c.args.text.now.items
    c.loop-slot.text.items _
    c.loop-slot.invariant c.in_ok-write_selected_line.ensures

pub returns : goal.returns
returns c =
    let m = c.args.self.now in
    text_all (selected_line m.shape m.cells.now m.marks c.args.selection) c.loop-slot.slot (slots_of m.shape)
    c.args.text.now.items c.loop-slot.text.items
    c.loop-slot.invariant (omega arith)
