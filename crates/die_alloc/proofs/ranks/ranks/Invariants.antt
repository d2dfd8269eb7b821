use Rattle.die_alloc.proofs.RankedBlocks.{HaveRanks}
use Rattle.die_alloc.proofs.ranks.ranks.Given as goal

abbrev pub invariant-loop-die : goal.invariant-loop-die
invariant-loop-die l = HaveRanks l.die l.fn.shape l.blocks l.all.items
