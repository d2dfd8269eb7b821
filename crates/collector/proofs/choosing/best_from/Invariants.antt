use Rattle.collector.proofs.Common.{◌-◌, ◌≤◌, IsBest}
use Rattle.collector.proofs.choosing.best_from.Given as goal

abbrev pub invariant-loop-block : goal.invariant-loop-block
invariant-loop-block g l = (l.from ≤ l.end) × IsBest l.index l.blocks l.from l.best

abbrev pub decreases-loop-block : goal.decreases-loop-block
decreases-loop-block g l = l.end - l.from
