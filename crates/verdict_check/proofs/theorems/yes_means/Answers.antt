mod MeaningLemmas
use Rattle.verdict_check.proofs.theorems.yes_means.Answers.MeaningLemmas.{says, all_said}
use Rattle.verdict_check.proofs.theorems.yes_means.Goals as goal

pub returns-clause-says : goal.returns-clause-says
returns-clause-says c = says

pub returns-clause-all : goal.returns-clause-all
returns-clause-all c = all_said
