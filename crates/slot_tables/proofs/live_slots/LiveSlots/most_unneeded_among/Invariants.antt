use Rattle.slot_tables.specs.Counts.{unmarked_in}
use Rattle.slot_tables.proofs.OfLiveSlots.Walks.{IsMostFrom}
use Rattle.slot_tables.proofs.live_slots.LiveSlots.most_unneeded_among.Given as goal

abbrev pub invariant-loop-block : goal.invariant-loop-block
invariant-loop-block l = IsMostFrom (unmarked_in l.self) l.first l.block l.most
