use Rattle.tx_engine.proofs.OfLaws.LaterSlots.{later_slot_law}
use Rattle.tx_engine.proofs.theorems.later_slots_may_go.Goals as goal

pub returns : goal.returns
returns c = λ p. later_slot_law p
