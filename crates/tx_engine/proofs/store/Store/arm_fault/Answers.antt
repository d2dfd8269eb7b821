use Rattle.tx_engine.proofs.Common.{refl}
use Rattle.tx_engine.proofs.store.Store.arm_fault.Goals as goal

pub returns : goal.returns
returns g c = rw (← c.self.view_is) (record { arms = c.arm_fault.ensures; stays = refl })
