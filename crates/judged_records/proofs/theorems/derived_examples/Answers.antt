mod DerivedExamples
use Rattle.judged_records.proofs.theorems.derived_examples.Answers.DerivedExamples.{begun_waits, whole_answers, steps_answer}
use Rattle.judged_records.proofs.theorems.derived_examples.Goals as goal

pub returns-clause-begun : goal.returns-clause-begun
returns-clause-begun c = begun_waits

pub returns-clause-whole : goal.returns-clause-whole
returns-clause-whole c = whole_answers

pub returns-clause-steps : goal.returns-clause-steps
returns-clause-steps c = steps_answer
