use Rattle.std.proofs.Common.{ap, ◌∙◌}
use Rattle.mem_flash.specs.MemFlashState.{state_of}
use Rattle.judged_records.specs.IndexState.{IndexState}
use Rattle.collector.proofs.OfSettle.SettledImages.{settled_stands}
use Rattle.device_tests.proofs.collecting.steps.settle_it.Goals as goal

pub returns-in-Ok-clause-config : goal.returns-in-Ok-clause-config
returns-in-Ok-clause-config g c =
    let law = g.met.R.CommitRule in
    ap (λ (n : IndexState). n.config) c.in-Ok.ensures.found.noted
    ∙ (settled_stands g.R.CommitRule.protocol law.partial_write law.completing_write law.copy law.block_loss
    (state_of c.args.kept.now.flash) c.args.kept.now.index c.args.kept.now.blocks c.args.kept.now.unsure
    c.requires.matches (c.is_collection.ensures c.if-not-is_collection.false _ _) c.requires.rule).config
