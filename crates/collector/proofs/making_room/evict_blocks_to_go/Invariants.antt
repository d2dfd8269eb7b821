pub mod GoingOrder
pub mod ClearRounds
use Rattle.collector.proofs.Common.{store_parts}
use Rattle.collector.proofs.making_room.evict_blocks_to_go.Invariants.ClearRounds.{ClearsSoFar}
use Rattle.collector.proofs.making_room.evict_blocks_to_go.Invariants.GoingOrder.{AreAhead, numbers}
use Rattle.collector.proofs.making_room.evict_blocks_to_go.Given as goal

-- what is so between two rounds, which blocks were evicted, and that those which are left are ahead
abbrev pub invariant-loop-block : goal.invariant-loop-block
invariant-loop-block g l = record {
  so_far : ClearsSoFar g.R.CommitRule.protocol l.page l.below
      (store_parts (g.F.Flash.state l.initial.flash) l.initial.index l.initial.blocks l.initial.unsure)
      (store_parts (g.F.Flash.state l.flash) l.index l.blocks l.unsure);
  ahead : AreAhead l.index l.page l.below (numbers l.block-items) l.block-index;
}
