use Rattle.tx_engine.proofs.Common.{refl}
use Rattle.tx_engine.proofs.store.Store.arm_cut.Goals as goal

pub returns : goal.returns
returns g c = rw (← c.self.view_is) (record { arms = c.arm_cut.ensures; stays = refl })
