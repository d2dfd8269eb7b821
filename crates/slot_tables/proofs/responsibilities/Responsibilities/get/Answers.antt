use Rattle.slot_tables.proofs.Common.{None}
use Rattle.slot_tables.proofs.OfAnswerers.Answering.{entry_within}
use Rattle.slot_tables.proofs.responsibilities.Responsibilities.get.Goals as goal

pub returns-clause-within : goal.returns-clause-within
returns-clause-within c =
    let a = c.self.inside in
    rw (← c.self.view_is, ← c.get.ensures None) (entry_within a.answerers a.counts c.self.invariant c.args.number)
