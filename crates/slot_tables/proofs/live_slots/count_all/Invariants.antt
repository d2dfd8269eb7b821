use Rattle.slot_tables.proofs.OfLiveSlots.Counted.{AreCounted}
use Rattle.slot_tables.proofs.live_slots.count_all.Given as goal

abbrev pub invariant-loop-block : goal.invariant-loop-block
invariant-loop-block l = AreCounted l.marks l.block l.blocks l.garbage
