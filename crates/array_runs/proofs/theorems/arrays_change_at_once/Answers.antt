mod AtOnce
use Rattle.array_runs.proofs.theorems.arrays_change_at_once.Answers.AtOnce.{serves_at_once, serves_stays}
use Rattle.array_runs.proofs.theorems.arrays_change_at_once.Goals as goal

pub returns-clause-at_once : goal.returns-clause-at_once
returns-clause-at_once c = serves_at_once

pub returns-clause-stays : goal.returns-clause-stays
returns-clause-stays c = serves_stays
