use Rattle.verdict_report.proofs.WalkLemmas.{walk_decides}
use Rattle.verdict_report.proofs.theorems.walk_decides.Goals as goal

pub returns : goal.returns
returns c = walk_decides
