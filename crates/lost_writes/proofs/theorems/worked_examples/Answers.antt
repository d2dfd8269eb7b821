mod First
use Rattle.std.proofs.Common.{refl}
use Rattle.page_record.specs.Rules.{record_of, number_at, first_broken}
use Rattle.page_record.specs.Spelling.{spelling}
use Rattle.judged_records.specs.Images.{written_in, array_in}
use Rattle.lost_writes.specs.Examples.{TwoWait, AbortedBetween, TwoTogether, CopyOrOriginal}
use Rattle.lost_writes.proofs.theorems.worked_examples.Answers.First.{first_is_programming}
use Rattle.lost_writes.proofs.theorems.worked_examples.Goals as goal

two_wait : TwoWait
unfolding array_in written_in record_of spelling first_broken number_at
two_wait = (refl, refl, refl, refl)

aborted_between : AbortedBetween
unfolding array_in written_in record_of spelling first_broken number_at
aborted_between = (refl, refl, refl, refl)

two_together : TwoTogether
unfolding array_in written_in record_of spelling first_broken number_at
two_together = (refl, refl, refl, refl)

copy_or_original : CopyOrOriginal
unfolding array_in written_in record_of spelling first_broken number_at
copy_or_original = (refl, refl, refl)

pub returns : goal.returns
returns c = record {
  scc = two_wait;
  bpcc = aborted_between;
  together = two_together;
  copy = copy_or_original;
  first = first_is_programming;
}
