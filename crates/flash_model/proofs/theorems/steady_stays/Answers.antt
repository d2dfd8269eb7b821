use Rattle.flash_model.proofs.CallLemmas.{IsSteady-stays}
use Rattle.flash_model.proofs.theorems.steady_stays.Goals as goal

pub returns : goal.returns
returns c = IsSteady-stays
