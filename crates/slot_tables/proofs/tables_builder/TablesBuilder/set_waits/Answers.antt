use Rattle.slot_tables.proofs.OfBaseTables.Refreshing.{waits_set}
use Rattle.slot_tables.proofs.OfBaseTables.RefreshedAll.{as_tables, are_tables}
use Rattle.slot_tables.proofs.tables_builder.TablesBuilder.set_waits.Goals as goal

pub invariant_of-self : goal.invariant_of-self
invariant_of-self c =
    let f = c.self.inside in
    let after = waits_set (as_tables f) (are_tables f c.self.invariant) c.args.number c.args.to in
    rw c.set.ensures (record {
      sized = after.sized;
      blanks = record { marks = after.blanks.marks; size = c.self.invariant.blanks.size };
      spare = c.self.invariant.spare;
      closed = c.self.invariant.closed;
    })
