use Rattle.collector.proofs.OfSettle.BlockReadings.{ReadSoFar}
use Rattle.collector.proofs.reading.read_block.Given as goal

abbrev pub invariant-loop-at : goal.invariant-loop-at
invariant-loop-at g l = ReadSoFar l.index (g.F.Flash.state l.initial.flash) (g.F.Flash.state l.flash) l.first l.at
    l.as_noted l.blank
