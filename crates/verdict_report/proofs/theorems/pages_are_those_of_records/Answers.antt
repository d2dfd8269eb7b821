use Rattle.verdict_report.proofs.PageLemmas.{pages_each, pages_ascending}
use Rattle.verdict_report.proofs.theorems.pages_are_those_of_records.Goals as goal

pub returns-clause-each : goal.returns-clause-each
returns-clause-each c = pages_each

pub returns-clause-ascending : goal.returns-clause-ascending
returns-clause-ascending c = pages_ascending
