use Rattle.verdict_check.proofs.Common.{◌≡◌, length, verdict_line, AreWalkEnds}
use Rattle.verdict_check.proofs.ReportLemmas.{AreLinesRead}
use Rattle.verdict_check.proofs.check.read_report.Given as goal

abbrev pub invariant-loop-page : goal.invariant-loop-page
invariant-loop-page l =
    AreLinesRead (verdict_line l.fn.judge.protocol l.fn.judge.records.list.now l.fn.judge.logical)
    l.fn.judge.records.list.now l.page l.fn.report l.rest l.count
    × AreWalkEnds l.fn.judge.records.list.now l.fn.judge.logical l.courses
    × (length l.courses ≡ length l.initial.courses)
