use Rattle.record_list.proofs.Common.{◌≡◌, walk, why}
use Rattle.record_list.proofs.walks.reason.Given as goal

abbrev pub invariant-loop-turns : goal.invariant-loop-turns
invariant-loop-turns l = walk l.protocol l.list l.start l.turns l.link ≡ why l.protocol l.list l.logical l.page

abbrev pub decreases-loop-turns : goal.decreases-loop-turns
decreases-loop-turns l = l.turns
