use Rattle.slot_tables.specs.Counts.{unmarked_in}
use Rattle.slot_tables.proofs.OfLiveSlots.Walks.{IsMost}
use Rattle.slot_tables.proofs.live_slots.LiveSlots.most_unneeded.Given as goal

abbrev pub invariant-loop-block : goal.invariant-loop-block
invariant-loop-block l = IsMost (unmarked_in l.self) l.block l.most l.found
