use Rattle.slot_tables.proofs.OfBaseTables.Refreshing.{current_set}
use Rattle.slot_tables.proofs.OfBaseTables.RefreshedAll.{as_tables, are_tables}
use Rattle.slot_tables.proofs.tables_builder.TablesBuilder.set_current.Goals as goal

pub invariant_of-self : goal.invariant_of-self
invariant_of-self c =
    let f = c.self.inside in
    let h = are_tables f c.self.invariant in
    let kept = h.sized.kept in
    let after = current_set (as_tables f) h c.args.page c.args.to
    (rw kept.current (rw (← c.self.view_is) at c.requires.page))
    (rw kept.slots (rw (← c.self.view_is) at c.requires.number)) in
    rw c.set.ensures (record {
      sized = after.sized;
      blanks = record { marks = after.blanks.marks; size = c.self.invariant.blanks.size };
      spare = c.self.invariant.spare;
      closed = c.self.invariant.closed;
    })
