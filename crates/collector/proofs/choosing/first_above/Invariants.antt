use Rattle.collector.specs.Best.{AreAtMost}
use Rattle.collector.proofs.choosing.first_above.Given as goal

abbrev pub invariant-loop-block : goal.invariant-loop-block
invariant-loop-block g l = AreAtMost l.index l.blocks l.first l.block l.garbage
