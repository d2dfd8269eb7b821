use Rattle.die_alloc.proofs.RankedBlocks.{AreFirstRanks}
use Rattle.die_alloc.proofs.ranks.die_ranks.Given as goal

abbrev pub invariant-loop-place : goal.invariant-loop-place
invariant-loop-place l = AreFirstRanks l.place l.blocks l.ranks
