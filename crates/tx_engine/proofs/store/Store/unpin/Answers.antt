use Rattle.tx_engine.proofs.store.Store.unpin.Goals as goal

pub invariant_of-self : goal.invariant_of-self
invariant_of-self g c = rw c.unpin.ensures (record { room = c.self.invariant.room })
