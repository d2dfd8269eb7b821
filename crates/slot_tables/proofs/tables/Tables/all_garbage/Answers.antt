-- The numbers are those of the marks.
use Rattle.slot_tables.proofs.Common.{tables_state}
use Rattle.slot_tables.proofs.OfLiveSlots.Garbage.{garbage_counts_are}
use Rattle.slot_tables.proofs.tables.Tables.all_garbage.Goals as goal

pub returns : goal.returns
returns c =
    let t = c.self.invariant in
    rw (
      ← c.self.view_is,
      garbage_counts_are (tables_state c.self.inside.base) t.sized.kept c.self.inside.live t.live t.blanks,
    )
    c.all_garbage.ensures
