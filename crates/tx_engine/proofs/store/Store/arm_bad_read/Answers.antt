use Rattle.tx_engine.proofs.Common.{refl}
use Rattle.tx_engine.proofs.store.Store.arm_bad_read.Goals as goal

pub returns : goal.returns
returns g c = rw (← c.self.view_is) (record { arms = c.arm_bad_read.ensures; stays = refl })
