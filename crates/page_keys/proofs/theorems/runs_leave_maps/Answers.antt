use Rattle.page_keys.proofs.Common.{mentions_in, moment_of}
use Rattle.page_keys.proofs.OfServe.KeyRunLemmas.{last_is_point}
use Rattle.page_keys.proofs.theorems.runs_leave_maps.Goals as goal

pub returns : goal.returns
returns c = λ its first cs rs ps run.
    last_is_point its (mentions_in its (moment_of first.flash)) first cs rs ps run.begins run.runs
