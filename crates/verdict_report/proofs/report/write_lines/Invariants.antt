use Rattle.verdict_report.proofs.Common.{verdict_line}
use Rattle.verdict_report.proofs.PageLemmas.{HasLines}
use Rattle.verdict_report.proofs.report.write_lines.Given as goal

abbrev pub invariant-loop-page : goal.invariant-loop-page
invariant-loop-page l =
    HasLines (verdict_line l.protocol l.records.chart l.logical) l.records.chart l.page l.initial.text.items
    l.text.items l.count
