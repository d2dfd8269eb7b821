use Rattle.collector.proofs.Common.{CollectsVictim}
use Rattle.collector.proofs.OfNotes.KeepsLemmas.{by_err, sure_then}
use Rattle.collector.proofs.OfRoom.RoomCalls.{most_unclean, most_none, most_broke, most_done, blank_spare, chosen_apart}
use Rattle.collector.proofs.making_room.collect_victim.Goals as goal

pub returns-in_err-clean_spare : goal.returns-in_err-clean_spare
returns-in_err-clean_spare g c =
    by_err c.from_residual.result (CollectsVictim g.R.CommitRule.protocol _ _) c.from_residual.ensures.0
    (λ y. most_unclean g.R.CommitRule.protocol _ _ _ y c.in_err-clean_spare.ensures)

pub returns-in_default : goal.returns-in_default
returns-in_default g c = most_none g.R.CommitRule.protocol g.met.R.CommitRule.block_loss _ _ c.requires.sure
    c.in_ok-clean_spare.ensures c.in_default.ensures

pub collect_clean-requires-clause-sure : goal.collect_clean-requires-clause-sure
collect_clean-requires-clause-sure g c = sure_then g.R.CommitRule.protocol _ _ c.requires.sure
    c.in_ok-clean_spare.ensures.keeps

pub collect_clean-requires-clause-not_spare : goal.collect_clean-requires-clause-not_spare
collect_clean-requires-clause-not_spare g c =
    chosen_apart g.R.CommitRule.protocol g.met.R.CommitRule.block_loss _ _ c.requires.sure c.in_ok-clean_spare.ensures
    c.in-Some.chosen c.in-Some.ensures

pub collect_clean-requires-clause-blank : goal.collect_clean-requires-clause-blank
collect_clean-requires-clause-blank g c = blank_spare g.R.CommitRule.protocol g.met.R.CommitRule.block_loss
    _ _ c.requires.sure c.in_ok-clean_spare.ensures

pub returns-in_err-collect_clean : goal.returns-in_err-collect_clean
returns-in_err-collect_clean g c =
    by_err c.from_residual-in_err-collect_clean.result (CollectsVictim g.R.CommitRule.protocol _ _)
    c.from_residual-in_err-collect_clean.ensures.0 (λ y.
    most_broke g.R.CommitRule.protocol g.met.R.CommitRule.block_loss _ _ c.requires.sure c.in_ok-clean_spare.ensures
    c.in-Some.chosen c.in-Some.ensures _ _ y
    c.in_err-collect_clean.ensures)

pub returns : goal.returns
returns g c =
    most_done g.R.CommitRule.protocol g.met.R.CommitRule.block_loss _ _ c.requires.sure c.in_ok-clean_spare.ensures
    c.in-Some.chosen c.in-Some.ensures
    _ _ c.in_ok-collect_clean.ensures
