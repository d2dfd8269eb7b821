mod Leaving
use Rattle.array_runs.proofs.theorems.arrays_are_left.Answers.Leaving.{array_left, state_left}
use Rattle.array_runs.proofs.theorems.arrays_are_left.Goals as goal

pub returns-clause-array : goal.returns-clause-array
returns-clause-array c = array_left

pub returns-clause-state : goal.returns-clause-state
returns-clause-state c = state_left
