mod Doubts
use Rattle.array_runs.proofs.theorems.doubtful_transactions.Answers.Doubts.{idle_one_doubt, run_one_doubt, doubt_arises}
use Rattle.array_runs.proofs.theorems.doubtful_transactions.Goals as goal

pub returns-clause-idle : goal.returns-clause-idle
returns-clause-idle c = idle_one_doubt

pub returns-clause-one : goal.returns-clause-one
returns-clause-one c = run_one_doubt

pub returns-clause-arises : goal.returns-clause-arises
returns-clause-arises c = doubt_arises
