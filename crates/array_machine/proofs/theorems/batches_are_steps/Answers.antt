mod BatchLaws
use Rattle.array_machine.proofs.theorems.batches_are_steps.Answers.BatchLaws.{one_is_step, none_moves, first_two_move, second_moves, none_move, second_is_taken}
use Rattle.array_machine.proofs.theorems.batches_are_steps.Answers.BatchLaws.{unfinished_stays}
use Rattle.array_machine.proofs.theorems.batches_are_steps.Goals as goal

pub returns-clause-one : goal.returns-clause-one
returns-clause-one c = one_is_step

pub returns-clause-none : goal.returns-clause-none
returns-clause-none c = none_moves

pub returns-clause-two : goal.returns-clause-two
returns-clause-two c = first_two_move

pub returns-clause-then : goal.returns-clause-then
returns-clause-then c = second_moves

pub returns-clause-last : goal.returns-clause-last
returns-clause-last c = none_move

pub returns-clause-taken : goal.returns-clause-taken
returns-clause-taken c = second_is_taken

pub returns-clause-left : goal.returns-clause-left
returns-clause-left c = unfinished_stays
