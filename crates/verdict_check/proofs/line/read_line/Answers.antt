use Rattle.verdict_check.proofs.Common.{left}
use Rattle.verdict_check.proofs.LineLemmas.{line_of_page}
use Rattle.verdict_check.proofs.line.read_line.Goals as goal

pub returns : goal.returns
returns c protocol logical is =
    line_of_page protocol c.args.records.now.list.now logical c.args.line.now (left c.args.reading) _ _ _ _ _ _ _ is
    c.read_page-reading.ensures c.read_verdict-reading.ensures c.read_reason-reading.ensures
    c.read_current-reading.ensures c.read_links-reading.ensures
    c.read_more.ensures c.then.ensures
