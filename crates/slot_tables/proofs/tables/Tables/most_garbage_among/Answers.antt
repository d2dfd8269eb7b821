-- The numbers are those of the marks.
use Rattle.slot_tables.proofs.Common.{tables_state}
use Rattle.slot_tables.proofs.OfLiveSlots.Garbage.{garbage_numbers_are}
use Rattle.slot_tables.proofs.tables.Tables.most_garbage_among.Goals as goal

pub returns : goal.returns
returns c =
    let t = c.self.invariant in
    rw (← c.self.view_is, garbage_numbers_are (tables_state c.self.inside.base) t.sized.kept c.self.inside.live t.live)
    c.most_unneeded_among.ensures
