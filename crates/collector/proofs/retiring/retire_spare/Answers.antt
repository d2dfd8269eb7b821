use Rattle.collector.proofs.Common.{Ok, Err, ◌∙◌, sym, ap, subst, Retires, erased, store_parts}
use Rattle.collector.specs.Retiring.{RetiresSpare}
use Rattle.collector.proofs.OfRetire.RetireParts.{spare_done, spare_broke}
use Rattle.collector.proofs.retiring.retire_spare.Goals as goal

pub returns-in-Err : goal.returns-in-Err
returns-in-Err g c =
    let laws = g.met.R.CommitRule in
    let s' = g.F.Flash.state c.retire.new.self in
    let a = store_parts (g.F.Flash.state c.args.flash.now) c.args.index.now c.args.blocks.now c.args.unsure.now in
    spare_broke g.R.CommitRule.protocol laws.block_loss laws.written_block_loss a c.requires.sure s' c.in-Err.broken
    (subst (λ b. Retires (g.F.Flash.state c.args.flash.now) s' b (Err c.in-Err.broken)) c.spare-spare.ensures.spare
    (subst (Retires (g.F.Flash.state c.args.flash.now) s' _) c.in-Err.is c.retire.ensures))

pub returns : goal.returns
returns g c =
    let laws = g.met.R.CommitRule in
    let a = store_parts (g.F.Flash.state c.args.flash.now) c.args.index.now c.args.blocks.now c.args.unsure.now in
    let s' = g.F.Flash.state c.retire.new.self in
    subst (λ n. RetiresSpare g.R.CommitRule.protocol a (store_parts s' n c.args.blocks.now c.args.unsure.now) _)
    (sym (c.note_erased.ensures ∙ ap (erased c.args.index.now) c.spare-spare.ensures.spare))
    (spare_done g.R.CommitRule.protocol laws.block_loss laws.written_block_loss a c.requires.sure s'
    c.in_default.field-0
    (subst (λ b. Retires (g.F.Flash.state c.args.flash.now) s' b (Ok c.in_default.field-0)) c.spare-spare.ensures.spare
    (subst (Retires (g.F.Flash.state c.args.flash.now) s' _) c.in_default.is c.retire.ensures)))
