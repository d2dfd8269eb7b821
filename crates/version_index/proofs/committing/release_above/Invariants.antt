use Rattle.version_index.proofs.OfCommit.Taking.{IsTaking, left_over}
use Rattle.version_index.proofs.committing.release_above.Given as goal

abbrev pub invariant-loop-next : goal.invariant-loop-next
invariant-loop-next l = IsTaking l.initial.tables l.tables l.page l.version l.next

abbrev pub decreases-loop-next : goal.decreases-loop-next
decreases-loop-next l = left_over l.tables l.next
