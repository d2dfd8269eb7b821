mod Examples
use Rattle.judged_records.proofs.theorems.worked_examples.Answers.Examples.{doubled_homes, doubled_goes, doubled_garbage, doubled_pinned, mentions_raised}
use Rattle.judged_records.proofs.theorems.worked_examples.Answers.Examples.{least_slots, written_array, aborted_may_go}
use Rattle.judged_records.proofs.theorems.worked_examples.Goals as goal

pub returns : goal.returns
returns c = record {
  homes = doubled_homes;
  goes = doubled_goes;
  garbage = doubled_garbage;
  pinned = doubled_pinned;
  mentions = mentions_raised;
  least = least_slots;
  array = written_array;
  aborted = aborted_may_go;
}
