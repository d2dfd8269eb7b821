mod Examples
use Rattle.verdict_report.proofs.theorems.worked_reports.Answers.Examples.{empty_report, straddled_report, twice_straddled_report, endless_report}
use Rattle.verdict_report.proofs.theorems.worked_reports.Goals as goal

pub returns-clause-empty : goal.returns-clause-empty
returns-clause-empty c = empty_report

pub returns-clause-straddled : goal.returns-clause-straddled
returns-clause-straddled c = straddled_report

pub returns-clause-twice_straddled : goal.returns-clause-twice_straddled
returns-clause-twice_straddled c = twice_straddled_report

pub returns-clause-endless : goal.returns-clause-endless
returns-clause-endless c = endless_report
