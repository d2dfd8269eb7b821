use Rattle.collector.proofs.Common.{store_parts}
use Rattle.collector.proofs.OfSettle.SettleCalls.{settles_failed, settles_done}
use Rattle.collector.proofs.OfSettle.SettledImages.{settled_stands}
use Rattle.collector.proofs.broken_operation.settle.Goals as goal

pub returns-in_err-found : goal.returns-in_err-found
returns-in_err-found g c =
    settles_failed g.R.CommitRule.protocol (store_parts (g.F.Flash.state c.args.flash.now) c.args.index.now
    c.args.blocks.now c.args.unsure.now) _ c.requires _ _ _
    _ c.from_residual.result c.from_residual.ensures.0 c.in_err-found.ensures

pub returns : goal.returns
returns g c =
    let laws = g.met.R.CommitRule in
    settles_done g.R.CommitRule.protocol (store_parts (g.F.Flash.state c.args.flash.now) c.args.index.now
    c.args.blocks.now c.args.unsure.now) _ c.requires _ _ _ _
    (settled_stands g.R.CommitRule.protocol laws.partial_write laws.completing_write laws.copy laws.block_loss
    _ _ _ _ c.requires.kept.matches c.requires.own
    c.requires.kept.rule)
    c.in_ok-found.ensures
