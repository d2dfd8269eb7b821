use Rattle.judged_records.proofs.OfCommit.Cycles.{cycle_written}
use Rattle.judged_records.proofs.theorems.complete_cycles.Goals as goal

pub returns : goal.returns
returns c = λ protocol n at rec next noted exists was all. cycle_written protocol n noted at rec exists was next all
