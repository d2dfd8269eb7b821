use Rattle.verdict_report.proofs.Common.{take}
use Rattle.verdict_report.specs.Newest.{KeepsNewest}
use Rattle.verdict_report.proofs.records.keep_all.Given as goal

abbrev pub invariant-loop-found : goal.invariant-loop-found
invariant-loop-found l = KeepsNewest (take l.found-index l.list) l.newest.items
