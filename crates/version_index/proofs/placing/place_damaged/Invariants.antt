use Rattle.version_index.proofs.OfOpening.ScanSlots.{AreFirstUsed}
use Rattle.version_index.proofs.placing.place_damaged.Given as goal

abbrev pub invariant-loop-at : goal.invariant-loop-at
invariant-loop-at l = AreFirstUsed l.seen l.initial.tables l.tables l.at
