-- The slot is the home of the record.
use Rattle.slot_tables.proofs.Common.{◌<◌, length}
use Rattle.slot_tables.proofs.OfSlots.FirstSlots.{first_sized, first_filled}
use Rattle.slot_tables.proofs.tables.Tables.fill_first.Goals as goal

pub is_wanted-wanted-requires-clause-sized : goal.is_wanted-wanted-requires-clause-sized
is_wanted-wanted-requires-clause-sized c =
    let t = c.self.inside in
    let h = c.self.invariant in
    let low : c.args.at.0 < length t.base.slots = rw h.sized.kept.slots (rw (← c.self.view_is) at c.requires.slot) in
    let fits = rw (← c.self.view_is) at c.requires.number in
    rw c.set.ensures (first_sized t h c.args.at.0 c.args.number low fits)

pub invariant_of-self : goal.invariant_of-self
invariant_of-self c =
    let t = c.self.inside in
    let h = c.self.invariant in
    let low : c.args.at.0 < length t.base.slots = rw h.sized.kept.slots (rw (← c.self.view_is) at c.requires.slot) in
    let fits = rw (← c.self.view_is) at c.requires.number in
    let held = rw (← c.self.view_is) at c.requires.held in
    let copy = rw (← c.self.view_is) at c.requires.copy in
    rw (c.mark.ensures, c.is_wanted-wanted.ensures, c.set.ensures)
    (first_filled t h c.args.at.0 c.args.number low fits held copy)
