-- A sort brings those that are the same together.
mod OrderedBlocks
use Rattle.version_index.proofs.Common.{◌↔◌, List, sym, subst, Block, AreRising}
use Rattle.std.specs.List.{Contains}
use Rattle.std.proofs.lemmas.List.Filters.{dedup_is}
use Rattle.version_index.proofs.clearing.order_blocks.Answers.OrderedBlocks.{dropped_rise, dropped_same}
use Rattle.version_index.proofs.clearing.order_blocks.Goals as goal

pub returns-clause-rising : goal.returns-clause-rising
returns-clause-rising c =
    let is = dedup_is _ c.sort_unstable.new.self.items c.dedup.new.self.items c.dedup.ensures.filtered in
    subst AreRising (sym is) (dropped_rise c.sort_unstable.new.self.items c.sort_unstable.ensures.sorted)

pub returns-clause-same : goal.returns-clause-same
returns-clause-same c block =
    let is = dedup_is _ c.sort_unstable.new.self.items c.dedup.new.self.items c.dedup.ensures.filtered in
    subst (λ (bs : List Block). Contains bs block ↔ Contains c.args.blocks.now.items block) (sym is)
    (dropped_same c.args.blocks.now.items c.sort_unstable.new.self.items c.sort_unstable.ensures.permutation block)
