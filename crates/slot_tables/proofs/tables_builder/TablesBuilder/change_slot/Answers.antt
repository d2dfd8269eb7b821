use Rattle.slot_tables.proofs.Common.{◌<◌, length}
use Rattle.slot_tables.proofs.OfSlots.SlotSetting.{slot_set}
use Rattle.slot_tables.proofs.OfBaseTables.RefreshedAll.{as_tables, are_tables}
use Rattle.slot_tables.proofs.tables_builder.TablesBuilder.change_slot.Goals as goal

pub invariant_of-self : goal.invariant_of-self
invariant_of-self c =
    let f = c.self.inside in
    let h = are_tables f c.self.invariant in
    let low : c.args.at.0 < length f.base.slots = rw h.sized.kept.slots (rw (← c.self.view_is) at c.requires.slot) in
    let numbered = rw (← c.self.view_is) at c.requires.number in
    let after = slot_set (as_tables f) h c.args.at.0 c.args.to low numbered c.is_blank.result c.is_blank.ensures in
    rw (c.set-2.ensures, c.set.ensures) (record {
      sized = after.sized;
      blanks = record { marks = after.blanks.marks; size = c.self.invariant.blanks.size };
      spare = c.self.invariant.spare;
      closed = c.self.invariant.closed;
    })
