use Rattle.tx_engine.proofs.Common.{refl}
use Rattle.tx_engine.proofs.store.Store.flush.Goals as goal

pub returns-clause-stays : goal.returns-clause-stays
returns-clause-stays g c = rw (← c.self.view_is) (record { same = c.flush.ensures.same; stays = refl })

pub returns-clause-flushes : goal.returns-clause-flushes
returns-clause-flushes g c = rw (← c.self.view_is) c.flush.ensures.flushes
