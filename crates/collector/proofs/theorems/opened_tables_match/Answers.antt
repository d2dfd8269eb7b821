mod OpenedTables
use Rattle.collector.proofs.theorems.opened_tables_match.Answers.OpenedTables.{opened_match}
use Rattle.collector.proofs.theorems.opened_tables_match.Goals as goal

pub returns : goal.returns
returns c = opened_match
