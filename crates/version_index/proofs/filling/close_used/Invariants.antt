use Rattle.version_index.proofs.OfOpening.ClosedBlocks.{AreClosedTo}
use Rattle.version_index.proofs.filling.close_used.Given as goal

abbrev pub invariant-loop-block : goal.invariant-loop-block
invariant-loop-block l = AreClosedTo l.seen l.initial.tables l.tables l.block
