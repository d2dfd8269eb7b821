use Rattle.std.proofs.Common.{refl}
use Rattle.straddle_sets.proofs.Responsibles.{has_home}
use Rattle.straddle_sets.proofs.theorems.responsible_records.Goals as goal

pub returns : goal.returns
returns c = record { some = has_home; held = λ list logical r. refl }
