use Rattle.collector.proofs.Common.{ap, ◌∙◌, arith, Config, IndexState}
use Rattle.collector.specs.Settling.{count_records}
use Rattle.collector.proofs.OfSettle.SettledImages.{changed_config, few}
use Rattle.collector.proofs.block_settling.settle_victim.Goals as goal

pub swap_spare-requires-clause-within : goal.swap_spare-requires-clause-within
swap_spare-requires-clause-within g c =
    let low = few _ _ _ c.args.block c.requires.kept.matches in
    let used = c.count_records-used.ensures ∙ ap (count_records c.args.index.now) c.spare.ensures.spare in
    let same = ap (λ (x : Config). x.pages_per_block)
    (ap (λ (n : IndexState). n.config) c.note_change.ensures
    ∙ changed_config c.args.index.now c.args.block.0 c.in_ok-reading.reading.blank) in
    omega (arith, low, used, same)
