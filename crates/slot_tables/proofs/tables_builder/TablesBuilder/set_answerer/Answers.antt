use Rattle.slot_tables.proofs.OfBaseTables.Refreshing.{answerer_set}
use Rattle.slot_tables.proofs.OfBaseTables.RefreshedAll.{as_tables, are_tables}
use Rattle.slot_tables.proofs.tables_builder.TablesBuilder.set_answerer.Goals as goal

pub invariant_of-self : goal.invariant_of-self
invariant_of-self c =
    let f = c.self.inside in
    let h = are_tables f c.self.invariant in
    let after = answerer_set (as_tables f) h c.args.number c.args.to
    (rw h.sized.kept.answerers (rw (← c.self.view_is) at c.requires.number)) in
    rw c.set.ensures (record {
      sized = after.sized;
      blanks = record { marks = after.blanks.marks; size = c.self.invariant.blanks.size };
      spare = c.self.invariant.spare;
      closed = c.self.invariant.closed;
    })
