-- The homes of the old and of the new current record are refreshed.
use Rattle.slot_tables.proofs.OfBaseTables.Refreshing.{current_set}
use Rattle.slot_tables.proofs.tables.Tables.set_current.Goals as goal

pub invariant_of-self : goal.invariant_of-self
invariant_of-self c =
    let t = c.self.inside in
    let kept = c.self.invariant.sized.kept in
    rw (c.refresh_home-2.ensures, c.refresh_home.ensures, c.set.ensures, c.get-before.ensures)
    (current_set t c.self.invariant c.args.page c.args.to (rw kept.current (rw (← c.self.view_is) at c.requires.page))
    (rw kept.slots
    (rw (← c.self.view_is) at c.requires.number)))
