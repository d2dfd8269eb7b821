use Rattle.scan_recovery.specs.Searches.{HasAbsent}
use Rattle.scan_recovery.proofs.own_links.with_absent_links.Given as goal

abbrev pub invariant-loop-at : goal.invariant-loop-at
invariant-loop-at l = HasAbsent l.chart l.at l.absent.items
