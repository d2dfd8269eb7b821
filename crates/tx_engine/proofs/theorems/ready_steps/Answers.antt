use Rattle.tx_engine.proofs.OfLaws.ReadySteps.{ready_step_law}
use Rattle.tx_engine.proofs.theorems.ready_steps.Goals as goal

pub returns : goal.returns
returns g c = ready_step_law g.F.Flash.state
