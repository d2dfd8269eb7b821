use Rattle.flash_picture.proofs.Common.{arith, step_text}
use Rattle.flash_picture.proofs.Texts.{items_all, items_more, items_none}
use Rattle.flash_picture.proofs.walk.write_steps.Goals as goal

pub loop-step-init : goal.loop-step-init
loop-step-init c = items_none step_text c.args.steps.now c.args.text.now.items

pub loop-step-preserved : goal.loop-step-preserved
loop-step-preserved c =
    items_more step_text c.args.steps.now c.loop-step.step-index _ c.args.text.now.items c.loop-step.text.items _
    c.loop-step-test.true c.loop-step.invariant c.in_ok-write.ensures

pub returns : goal.returns
returns c =
    items_all step_text c.args.steps.now c.loop-step.step-index c.args.text.now.items c.loop-step.text.items
    c.loop-step.invariant (omega arith)
