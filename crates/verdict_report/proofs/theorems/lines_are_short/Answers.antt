mod LengthLemmas
use Rattle.verdict_report.proofs.theorems.lines_are_short.Answers.LengthLemmas.{line_short}
use Rattle.verdict_report.proofs.theorems.lines_are_short.Goals as goal

pub returns : goal.returns
returns c = line_short
