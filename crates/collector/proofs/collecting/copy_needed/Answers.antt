mod NeededCopies
use Rattle.collector.proofs.Common.{◌≡◌, ◌+◌, ◌*◌, ◌<◌, refl, sym, ap, ◌∙◌, subst, arith, Config, CopyLaw, CopiesNeeded}
use Rattle.collector.proofs.OfCopies.CopyingBlocks.{copied_none, copied_passed, copied_taken, at_within, next_of_spare, has_record}
use Rattle.collector.proofs.OfNotes.KeepsLemmas.{by_err, sure_then}
use Rattle.collector.proofs.collecting.copy_needed.Answers.NeededCopies.{needed_copied, needed_broke}
use Rattle.collector.proofs.collecting.copy_needed.Goals.{then-needed+in_ok-copy_record, else-needed}
use Rattle.collector.proofs.collecting.copy_needed.Goals as goal

pub loop-at-init : goal.loop-at-init
loop-at-init g c =
    let same : c.config-pages.result.pages_per_block ≡ c.args.index.now.config.pages_per_block =
    ap (λ (k : Config). k.pages_per_block)
    c.config-pages.ensures.config in
    let start = ap (λ k. k * c.config-pages.result.pages_per_block) c.spare.ensures.spare
    ∙ ap (λ k. c.args.blocks.now.spare * k) same in
    copied_none g.R.CommitRule.protocol _ c.requires.sure _ _ c.args.blocks.now.spare start c.requires.blank

pub needed-requires : goal.needed-requires
needed-requires g c =
    let same : c.config-pages.result.pages_per_block ≡ c.args.index.now.config.pages_per_block =
    ap (λ (k : Config). k.pages_per_block)
    c.config-pages.ensures.config in
    let start = ap (λ k. k * c.config-pages.result.pages_per_block) c.spare.ensures.spare
    ∙ ap (λ k. c.args.blocks.now.spare * k) same in
    at_within g.R.CommitRule.protocol _ _ _ _ _ _ _ _ _ c.args.block.0
    c.loop-at.invariant c.loop-at.auto.at (ap (λ k. c.args.block.0 * k) same) start
    (omega (arith, c.loop-at-test.true, same)) c.requires.not_spare
    c.requires.exists

pub copy_record-requires-clause-sure : goal.copy_record-requires-clause-sure
copy_record-requires-clause-sure g c = sure_then g.R.CommitRule.protocol _ _ c.requires.sure c.loop-at.invariant.keeps

pub copy_record-requires-clause-can : goal.copy_record-requires-clause-can
copy_record-requires-clause-can g c =
    let same : c.config-pages.result.pages_per_block ≡ c.args.index.now.config.pages_per_block =
    ap (λ (k : Config). k.pages_per_block)
    c.config-pages.ensures.config in
    let start = ap (λ k. k * c.config-pages.result.pages_per_block) c.spare.ensures.spare
    ∙ ap (λ k. c.args.blocks.now.spare * k) same in
    let first = ap (λ k. c.args.block.0 * k) same in
    let high : c.loop-at.at < c.args.block.0 * c.config-pages.result.pages_per_block
    + c.args.index.now.config.pages_per_block =
    omega (arith, c.loop-at-test.true, same) in
    record {
      source = has_record g.R.CommitRule.protocol _ _ _ _ _ _ _ _ _ c.args.block.0 c.loop-at.invariant c.loop-at.auto.at
          first start high c.requires.not_spare
          c.requires.exists
          (sym c.needed.ensures ∙ c.if-needed.true);
      exists = at_within g.R.CommitRule.protocol _ _ _ _ _ _ _ _ _ c.args.block.0 c.loop-at.invariant c.loop-at.auto.at
          first start high c.requires.not_spare
          c.requires.exists;
      next = next_of_spare g.R.CommitRule.protocol _ _ _ _ _ _ _ _ _ c.args.block.0 c.loop-at.invariant
          c.loop-at.auto.at first start high c.requires.not_spare
          c.requires.exists;
    }

pub returns-in_err-copy_record : goal.returns-in_err-copy_record
returns-in_err-copy_record g c =
    let same : c.config-pages.result.pages_per_block ≡ c.args.index.now.config.pages_per_block =
    ap (λ (k : Config). k.pages_per_block)
    c.config-pages.ensures.config in
    let start = ap (λ k. k * c.config-pages.result.pages_per_block) c.spare.ensures.spare
    ∙ ap (λ k. c.args.blocks.now.spare * k) same in
    by_err c.from_residual.result (CopiesNeeded g.R.CommitRule.protocol _ _ c.args.block.0)
    c.from_residual.ensures.0 (λ y.
    needed_broke g.R.CommitRule.protocol _ _ _ _ _ _ _ _ c.args.block.0 c.loop-at.invariant
    (ap (λ k. c.args.block.0 * k) same) start c.requires.not_spare
    c.loop-at.auto.at (omega (arith, c.loop-at-test.true, same)) c.requires.exists (sym c.needed.ensures
    ∙ c.if-needed.true) _ _ refl refl _ _ _ _ y
    c.in_err-copy_record.ensures)

pub loop-at-preserved : goal.loop-at-preserved
loop-at-preserved g c =
    let h = c.loop-at.invariant in
    let same : c.config-pages.result.pages_per_block ≡ c.args.index.now.config.pages_per_block =
    ap (λ (k : Config). k.pages_per_block)
    c.config-pages.ensures.config in
    let start = ap (λ k. k * c.config-pages.result.pages_per_block) c.spare.ensures.spare
    ∙ ap (λ k. c.args.blocks.now.spare * k) same in
    let first = ap (λ k. c.args.block.0 * k) same in
    let high : c.loop-at.at < c.args.block.0 * c.config-pages.result.pages_per_block
    + c.args.index.now.config.pages_per_block =
    omega (arith, c.loop-at-test.true, same) in
    let law : CopyLaw c.loop-at.index.config.protocol =
    subst CopyLaw (sym (ap (λ (k : Config). k.protocol) h.keeps.preserves.config ∙ c.requires.sure.rule))
    g.met.R.CommitRule.copy in
    elim c.if-needed.branch [
      | then-needed+in_ok-copy_record w ↦
          rw (w.index-is, w.flash-is, w.unsure-is, w.used-is)
          (copied_taken g.R.CommitRule.protocol _ c.loop-at.index _ _ _ _ _ _ _ c.args.block.0 h c.loop-at.auto.at first
          start high c.requires.not_spare
          c.requires.exists
          (sym c.needed.ensures ∙ w.if-needed.true) law _ _ _ _ _ refl refl w.in_ok-copy_record.ensures)
      | else-needed w ↦
          rw (w.index-is, w.flash-is, w.unsure-is, w.used-is)
          (copied_passed g.R.CommitRule.protocol _ _ _ _ _ _ _ _ _ c.args.block.0 h c.loop-at.auto.at first start high
          c.requires.not_spare c.requires.exists
          (sym c.needed.ensures ∙ w.if-needed.false))
    ]

pub returns : goal.returns
returns g c =
    let same : c.config-pages.result.pages_per_block ≡ c.args.index.now.config.pages_per_block =
    ap (λ (k : Config). k.pages_per_block)
    c.config-pages.ensures.config in
    let start = ap (λ k. k * c.config-pages.result.pages_per_block) c.spare.ensures.spare
    ∙ ap (λ k. c.args.blocks.now.spare * k) same in
    needed_copied g.R.CommitRule.protocol _ _ _ _ _ _ _ _ c.args.block.0 c.loop-at.invariant
    (ap (λ k. c.args.block.0 * k) same) start c.requires.not_spare
    (omega (arith, c.loop-at-test.false, c.loop-at.auto.at-end, same))
