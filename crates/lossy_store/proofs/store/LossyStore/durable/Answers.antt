use Rattle.lossy_store.proofs.Leaving.{durable_left}
use Rattle.lossy_store.proofs.store.LossyStore.durable.Goals as goal

pub returns-clause-left : goal.returns-clause-left
returns-clause-left c =
    let self = c.args.self.now in
    rw c.as_slice.ensures.value (durable_left self.durable.items self.writes.items self.copies)
