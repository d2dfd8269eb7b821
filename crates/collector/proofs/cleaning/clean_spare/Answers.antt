use Rattle.collector.proofs.Common.{Ok, Err, ◌∙◌, sym, ap, subst, Erases, erased, Cleans, is_noted_blank, store_parts}
use Rattle.collector.proofs.OfClean.Cleanings.{cleans_blank, cleans_erased, cleans_torn}
use Rattle.collector.proofs.cleaning.clean_spare.Goals as goal

pub returns-then-is_noted_blank : goal.returns-then-is_noted_blank
returns-then-is_noted_blank g c =
    let laws = g.met.R.CommitRule in
    cleans_blank g.R.CommitRule.protocol laws.block_loss laws.written_block_loss
    (store_parts (g.F.Flash.state c.args.flash.now) c.args.index.now c.args.blocks.now c.args.unsure.now) c.requires
    (ap (is_noted_blank c.args.index.now) (sym c.spare-spare.ensures.spare) ∙ sym c.is_noted_blank.ensures
    ∙ c.if-is_noted_blank.true)

pub returns-in-Err : goal.returns-in-Err
returns-in-Err g c =
    let laws = g.met.R.CommitRule in
    cleans_torn g.R.CommitRule.protocol laws.block_loss laws.written_block_loss
    (store_parts (g.F.Flash.state c.args.flash.now) c.args.index.now c.args.blocks.now c.args.unsure.now) c.requires
    (ap (is_noted_blank c.args.index.now) (sym c.spare-spare.ensures.spare) ∙ sym c.is_noted_blank.ensures
    ∙ c.if-is_noted_blank.false)
    (g.F.Flash.state c.erase.new.self) c.in-Err.broken
    (subst (λ b. Erases (g.F.Flash.state c.args.flash.now) (g.F.Flash.state c.erase.new.self) b (Err c.in-Err.broken))
    c.spare-spare.ensures.spare
    (subst (Erases (g.F.Flash.state c.args.flash.now) (g.F.Flash.state c.erase.new.self) _) c.in-Err.is
    c.erase.ensures))

pub returns : goal.returns
returns g c =
    let laws = g.met.R.CommitRule in
    let a = store_parts (g.F.Flash.state c.args.flash.now) c.args.index.now c.args.blocks.now c.args.unsure.now in
    let s' = g.F.Flash.state c.erase.new.self in
    subst (λ n. Cleans g.R.CommitRule.protocol a (store_parts s' n c.args.blocks.now c.args.unsure.now) _)
    (sym (c.note_erased.ensures ∙ ap (erased c.args.index.now) c.spare-spare.ensures.spare))
    (cleans_erased g.R.CommitRule.protocol laws.block_loss laws.written_block_loss a c.requires
    (ap (is_noted_blank c.args.index.now) (sym c.spare-spare.ensures.spare) ∙ sym c.is_noted_blank.ensures
    ∙ c.if-is_noted_blank.false) s' c.in_default.field-0
    (subst (λ b. Erases (g.F.Flash.state c.args.flash.now) s' b (Ok c.in_default.field-0)) c.spare-spare.ensures.spare
    (subst (Erases (g.F.Flash.state c.args.flash.now) s' _) c.in_default.is c.erase.ensures)))
