use Rattle.collector.proofs.Common.{refl, subst, Reads, Finds, store_parts}
use Rattle.collector.specs.declared.unsure.Unsure.TheVariants as unsure
use Rattle.collector.proofs.OfNotes.KeepsLemmas.{by_err}
use Rattle.collector.proofs.OfSettle.SettleCalls.{finds_unread}
use Rattle.collector.proofs.settling.settle_own.Goals as goal

pub returns-in_err-read : goal.returns-in_err-read
returns-in_err-read g c =
    let a = store_parts (g.F.Flash.state c.args.flash.now) c.args.index.now c.args.blocks.now
    (unsure.Own c.args.at c.args.rec) in
    let s1 = g.F.Flash.state c.read.new.self in
    by_err c.from_residual.result (Finds a s1 c.args.index.now c.args.blocks.now) c.from_residual.ensures.0 (λ y.
    finds_unread a s1 c.args.at.0 _ _ c.in_err-read.field-0.0 y refl
    (subst (Reads a.flash s1 c.args.at.0 _ _) c.in_err-read.was c.read.ensures))
