mod SccCurrent
use Rattle.record_list.proofs.theorems.current_is_present.Answers.SccCurrent.{scc_current_present}
use Rattle.record_list.proofs.theorems.current_is_present.Goals as goal

pub returns : goal.returns
returns c = scc_current_present
