use Rattle.record_list.proofs.OfChanges.Counting.{write_keeps_counts, copy_keeps_counts, loss_keeps_counts}
use Rattle.record_list.proofs.theorems.counts_stay.Goals as goal

pub returns-clause-write : goal.returns-clause-write
returns-clause-write c = write_keeps_counts

pub returns-clause-copy : goal.returns-clause-copy
returns-clause-copy c = copy_keeps_counts

pub returns-clause-loss : goal.returns-clause-loss
returns-clause-loss c = loss_keeps_counts
