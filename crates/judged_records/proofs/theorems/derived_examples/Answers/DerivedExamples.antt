-- What is derived from a few slots, by computation.
use Rattle.judged_records.proofs.Common.{refl, found_in, current_of, loose_of, answerer_of, waits_of, goes_of}
use Rattle.judged_records.specs.DerivedExamples.{BegunWaits, WholeAnswers, StepsAnswer}
use Rattle.judged_records.specs.DerivedChanges.{completes}

pub begun_waits : BegunWaits
unfolding found_in answerer_of waits_of completes goes_of
begun_waits = (refl, refl, refl, refl, refl, refl)

pub whole_answers : WholeAnswers
unfolding found_in current_of loose_of answerer_of waits_of completes
whole_answers = (refl, refl, refl, refl, refl, refl, refl, refl, refl)

pub steps_answer : StepsAnswer
unfolding found_in current_of answerer_of waits_of
steps_answer = (refl, refl, refl, refl, refl, refl, refl)
