mod CutsLeave
use Rattle.tx_engine.proofs.Common.{refl, entry_of}
use Rattle.tx_engine.proofs.theorems.crash_states.Answers.CutsLeave.{cut_step, cut_settled}
use Rattle.tx_engine.proofs.theorems.crash_states.Goals as goal

pub returns : goal.returns
returns g c = record {
  step = λ old new there tag stands rule steps.
      cut_step old.machine new.machine there tag _ _ _ new.namings new.unsure stands.doubt
      (c.device_invariant.ensures.array new stands rule)
      (entry_of tag old.machine.entries) refl steps;
  settled = λ old new there stands rule settled.
      cut_settled (λ e. ⊥) old.machine _ there new.machine _ _ new.namings new.unsure stands.doubt
      (c.device_invariant.ensures.array new stands rule) settled;
}
