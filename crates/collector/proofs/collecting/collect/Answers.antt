use Rattle.collector.proofs.Common.{Collects}
use Rattle.collector.proofs.OfCollect.CollectCalls.{collects_unclean, collects_cleaned}
use Rattle.collector.proofs.OfCollect.Collections.{unneeded_cleaned}
use Rattle.collector.proofs.OfNotes.KeepsLemmas.{by_err, sure_then}
use Rattle.collector.proofs.OfRoom.RoomCalls.{blank_spare}
use Rattle.collector.proofs.collecting.collect.Goals as goal

pub returns-in_err-clean_spare : goal.returns-in_err-clean_spare
returns-in_err-clean_spare g c =
    by_err c.from_residual.result (Collects g.R.CommitRule.protocol _ _ c.args.block.0) c.from_residual.ensures.0
    (λ y. collects_unclean g.R.CommitRule.protocol _ _ c.args.block.0 _ y c.in_err-clean_spare.ensures)

pub collect_clean-requires-clause-sure : goal.collect_clean-requires-clause-sure
collect_clean-requires-clause-sure g c = sure_then g.R.CommitRule.protocol _ _ c.requires.sure
    c.in_ok-clean_spare.ensures.keeps

pub collect_clean-requires-clause-blank : goal.collect_clean-requires-clause-blank
collect_clean-requires-clause-blank g c = blank_spare g.R.CommitRule.protocol g.met.R.CommitRule.block_loss
    _ _ c.requires.sure c.in_ok-clean_spare.ensures

pub returns : goal.returns
returns g c =
    let can = c.requires.can in
    let law = g.met.R.CommitRule.block_loss in
    collects_cleaned g.R.CommitRule.protocol law _ _ c.requires.sure c.in_ok-clean_spare.ensures c.args.block
    can.exists can.not_spare
    (unneeded_cleaned g.R.CommitRule.protocol law _ _ _ _ c.requires.sure.rule c.requires.sure.matches _ c.args.block.0
    c.in_ok-clean_spare.ensures.noted
    can.unneeded) _ c.collect_clean.result c.collect_clean.ensures
