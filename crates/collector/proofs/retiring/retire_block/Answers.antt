mod RetireCalls
use Rattle.collector.proofs.Common.{refl, sym, ◌∙◌}
use Rattle.collector.specs.Retiring.{RetiresBlock}
use Rattle.collector.proofs.OfNotes.KeepsLemmas.{by_err}
use Rattle.collector.proofs.retiring.retire_block.Answers.RetireCalls.{spare_retired, retires_stopped, victim_retired}
use Rattle.collector.proofs.OfRoom.RoomCalls.{blank_spare}
use Rattle.collector.proofs.retiring.retire_block.Goals as goal

pub copy_needed-requires-clause-blank : goal.copy_needed-requires-clause-blank
copy_needed-requires-clause-blank g c = blank_spare g.R.CommitRule.protocol g.met.R.CommitRule.block_loss
    _ _ c.requires.sure c.in_ok-clean_spare.ensures

pub returns-then-block-spare : goal.returns-then-block-spare
returns-then-block-spare g c =
    spare_retired g.R.CommitRule.protocol _ _ c.args.block.0 _ (c.if-block-spare.true ∙ c.spare.ensures.spare)
    c.retire_spare.ensures

pub returns-in_err-used : goal.returns-in_err-used
returns-in_err-used g c =
    by_err c.from_residual-in_err-used.result (RetiresBlock g.R.CommitRule.protocol _ _ c.args.block.0)
    c.from_residual-in_err-used.ensures.0 (λ y.
    retires_stopped g.R.CommitRule.protocol g.met.R.CommitRule.block_loss _ _ c.requires.sure
    c.in_ok-clean_spare.ensures c.args.block
    (λ spare. c.if-block-spare.false (spare ∙ sym c.spare.ensures.spare)) _ _ y c.in_err-used.ensures refl)

pub returns : goal.returns
returns g c =
    victim_retired g.R.CommitRule.protocol g.met.R.CommitRule.block_loss _ _ c.requires.sure
    c.in_ok-clean_spare.ensures c.args.block
    (λ spare. c.if-block-spare.false (spare ∙ sym c.spare.ensures.spare)) _ _ _ c.in_ok-used.ensures refl
    c.retire_victim.result c.retire_victim.ensures
