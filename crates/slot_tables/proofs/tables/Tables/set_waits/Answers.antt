use Rattle.slot_tables.proofs.OfBaseTables.Refreshing.{waits_set}
use Rattle.slot_tables.proofs.tables.Tables.set_waits.Goals as goal

pub invariant_of-self : goal.invariant_of-self
invariant_of-self c = rw c.set.ensures (waits_set c.self.inside c.self.invariant c.args.number c.args.to)
