use Rattle.scan_recovery.proofs.Common.{take}
use Rattle.scan_recovery.specs.Removable.{AreFixed}
use Rattle.scan_recovery.proofs.removable.fixed_blocks.Given as goal

abbrev pub invariant-loop-at : goal.invariant-loop-at
invariant-loop-at l = AreFixed l.standing l.shape (take l.at l.standing.list) l.fixed.items
