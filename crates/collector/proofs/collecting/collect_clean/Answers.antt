use Rattle.collector.proofs.Common.{refl}
use Rattle.collector.specs.Calls.{stops_copying, comes_to_erase}
use Rattle.collector.proofs.OfNotes.KeepsLemmas.{sure_then}
use Rattle.collector.proofs.collecting.collect_clean.Goals as goal

pub returns-in_err-used : goal.returns-in_err-used
returns-in_err-used g c = stops_copying _ c.from_residual.ensures.0 c.in_err-used.ensures refl

pub erase_victim-requires-clause-sure : goal.erase_victim-requires-clause-sure
erase_victim-requires-clause-sure g c = sure_then g.R.CommitRule.protocol _ _ c.requires.sure c.in_ok-used.ensures.keeps

pub returns : goal.returns
returns g c = comes_to_erase _ _ c.in_ok-used.ensures refl c.erase_victim.ensures
