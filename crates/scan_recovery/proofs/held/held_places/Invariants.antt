use Rattle.scan_recovery.proofs.Common.{take}
use Rattle.scan_recovery.specs.Removable.{AreHeld}
use Rattle.scan_recovery.proofs.held.held_places.Given as goal

abbrev pub invariant-loop-at : goal.invariant-loop-at
invariant-loop-at l = AreHeld l.standing (take l.at l.standing.list) l.held.items
