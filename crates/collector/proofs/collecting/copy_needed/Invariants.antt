use Rattle.collector.proofs.OfCopies.CopyingBlocks.{CopiedSoFar}
use Rattle.collector.proofs.Common.{store_parts}
use Rattle.collector.proofs.collecting.copy_needed.Given as goal

abbrev pub invariant-loop-at : goal.invariant-loop-at
invariant-loop-at g l =
    CopiedSoFar g.R.CommitRule.protocol (store_parts (g.F.Flash.state l.initial.flash) l.initial.index l.blocks
    l.initial.unsure) l.index
    (g.F.Flash.state l.flash) l.blocks l.unsure
    l.first l.start l.at l.used
