use Rattle.collector.proofs.Common.{◌∙◌, sym, ap, subst, Retires, IndexState, erased, with_spare, BlocksState, IsBlocksState, RetiresVictim, store_parts}
use Rattle.collector.proofs.OfNotes.Losing.{can_be_lost}
use Rattle.collector.proofs.OfRetire.RetireParts.{replaced_done, replaced_broke}
use Rattle.collector.proofs.retiring.retire_victim.Goals as goal

pub note_erased-requires-clause-outside : goal.note_erased-requires-clause-outside
note_erased-requires-clause-outside g c =
    can_be_lost c.args.index.now c.args.block.0 c.requires.can.spared

pub returns-in-Err : goal.returns-in-Err
returns-in-Err g c =
    let laws = g.met.R.CommitRule in
    let s' = g.F.Flash.state c.retire.new.self in
    let a = store_parts (g.F.Flash.state c.args.flash.now) c.args.index.now c.args.blocks.now c.args.unsure.now in
    replaced_broke g.R.CommitRule.protocol laws.block_loss laws.written_block_loss a c.requires.sure s' c.args.block
    c.args.used c.requires.can c.in-Err.broken
    (subst (Retires (g.F.Flash.state c.args.flash.now) s' _) c.in-Err.is c.retire.ensures)

pub returns : goal.returns
returns g c =
    let laws = g.met.R.CommitRule in
    let a = store_parts (g.F.Flash.state c.args.flash.now) c.args.index.now c.args.blocks.now c.args.unsure.now in
    let s' = g.F.Flash.state c.retire.new.self in
    let now = with_spare (erased c.args.index.now c.args.block.0) c.args.block.0 in
    subst (λ (n : IndexState). RetiresVictim g.R.CommitRule.protocol a
    (store_parts s' n c.swap_spare.new.blocks c.args.unsure.now) c.args.block c.args.used _)
    (sym (c.swap_spare.ensures.noted ∙ ap (λ k. with_spare k c.args.block.0) c.note_erased.ensures))
    (subst (λ (t : BlocksState). RetiresVictim g.R.CommitRule.protocol a (store_parts s' now t c.args.unsure.now)
    c.args.block c.args.used _)
    (sym c.swap_spare.ensures.blocks)
    (replaced_done g.R.CommitRule.protocol laws.block_loss laws.written_block_loss a c.requires.sure s' c.args.block
    c.args.used c.requires.can
    c.in_default.field-0 (subst (Retires (g.F.Flash.state c.args.flash.now) s' _) c.in_default.is c.retire.ensures)
    c.swap_spare.ensures.between
    (subst IsBlocksState c.swap_spare.ensures.blocks c.swap_spare.ensures.table)))
