use Rattle.scan_recovery.proofs.Common.{IsLowestSharer}
use Rattle.scan_recovery.proofs.shared_links.lowest_sharer.Given as goal

abbrev pub invariant-loop-at : goal.invariant-loop-at
invariant-loop-at l = IsLowestSharer l.by_link l.at l.lowest
