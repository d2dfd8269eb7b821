use Rattle.verdict_check.proofs.Common.{left}
use Rattle.verdict_check.proofs.LineLemmas.{AreRead}
use Rattle.verdict_check.proofs.line.read_links.Given as goal

abbrev pub invariant-loop-shown : goal.invariant-loop-shown
invariant-loop-shown l = AreRead l.records.list.now l.page l.links l._shown (left l.initial.reading)
    (left l.reading) l.link
