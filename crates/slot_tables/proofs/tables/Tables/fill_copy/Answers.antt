-- In the spare it is not the home, where a copy stands outside.
use Rattle.slot_tables.proofs.Common.{◌<◌, length}
use Rattle.slot_tables.proofs.OfSlots.FirstSlots.{copy_filled}
use Rattle.slot_tables.proofs.tables.Tables.fill_copy.Goals as goal

pub invariant_of-self : goal.invariant_of-self
invariant_of-self c =
    let t = c.self.inside in
    let h = c.self.invariant in
    let low : c.args.at.0 < length t.base.slots = rw h.sized.kept.slots (rw (← c.self.view_is) at c.requires.slot) in
    let fits = rw (← c.self.view_is) at c.requires.number in
    let held = rw (← c.self.view_is) at c.requires.held in
    rw (c.set_blank.ensures, c.set.ensures)
    (copy_filled t h c.args.at.0 c.args.number low fits held (c.is_aside.ensures.inside c.if-is_aside.true)
    (c.is_aside.ensures.copy c.if-is_aside.true))
