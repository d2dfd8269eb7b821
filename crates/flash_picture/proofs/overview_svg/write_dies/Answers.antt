use Rattle.flash_picture.proofs.Common.{arith}
use Rattle.flash_picture.specs.OverviewSvg.{die_svg}
use Rattle.flash_picture.proofs.Texts.{text_all, text_more, text_none}
use Rattle.flash_picture.proofs.overview_svg.write_dies.Goals as goal

pub loop-die-init : goal.loop-die-init
loop-die-init c = text_none (die_svg c.args.shape) c.args.text.now.items

pub loop-die-preserved : goal.loop-die-preserved
loop-die-preserved c =
    text_more (die_svg c.args.shape) c.loop-die.die c.args.text.now.items c.loop-die.text.items _
    c.loop-die.invariant c.in_ok-write_die.ensures

pub returns : goal.returns
returns c =
    text_all (die_svg c.args.shape) c.loop-die.die c.args.shape.dies c.args.text.now.items c.loop-die.text.items
    c.loop-die.invariant (omega arith)
