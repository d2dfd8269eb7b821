use Rattle.slot_tables.proofs.Common.{length, Contains, IfSome, list_of, rest_from}
use Rattle.slot_tables.proofs.OfRecords.Rising.{AtPlace}
use Rattle.slot_tables.proofs.slots.last_below.Given as goal

abbrev pub invariant-loop-slot : goal.invariant-loop-slot
invariant-loop-slot l = AtPlace (list_of l.lists l.key) l.at l.slot l.below
    × IfSome l.slot (Contains (list_of l.lists l.key))

abbrev pub decreases-loop-slot : goal.decreases-loop-slot
decreases-loop-slot l = length (rest_from (list_of l.lists l.key) l.slot)
