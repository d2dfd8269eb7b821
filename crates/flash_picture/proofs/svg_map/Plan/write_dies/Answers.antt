use Rattle.flash_picture.proofs.Common.{arith, die_heading}
use Rattle.flash_picture.proofs.Texts.{text_all, text_more, text_none}
use Rattle.flash_picture.proofs.svg_map.Plan.write_dies.Goals as goal

pub loop-die-init : goal.loop-die-init
loop-die-init c = text_none (die_heading c.args.self.now.grid) c.args.text.now.items

pub loop-die-preserved : goal.loop-die-preserved
loop-die-preserved c =
    let p = c.args.self.now in
    text_more (die_heading p.grid) c.loop-die.die c.args.text.now.items c.loop-die.text.items _
    c.loop-die.invariant c.in_ok-write_die.ensures

pub returns : goal.returns
returns c =
    let grid = c.args.self.now.grid in
    text_all (die_heading grid) c.loop-die.die grid.shape.dies c.args.text.now.items c.loop-die.text.items
    c.loop-die.invariant (omega arith)
