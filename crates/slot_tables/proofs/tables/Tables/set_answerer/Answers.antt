-- The homes of the old and of the new answerer are refreshed.
use Rattle.slot_tables.proofs.Common.{sym, ◌∙◌}
use Rattle.slot_tables.proofs.OfBaseTables.Refreshing.{answerer_set}
use Rattle.slot_tables.proofs.tables.Tables.set_answerer.Goals as goal

pub refresh_home-requires-clause-number : goal.refresh_home-requires-clause-number
refresh_home-requires-clause-number c =
    let kept = c.self.invariant.sized.kept in
    rw (kept.slots ∙ sym kept.answerers) c.get-before.ensures.within

pub invariant_of-self : goal.invariant_of-self
invariant_of-self c =
    let t = c.self.inside in
    let kept = c.self.invariant.sized.kept in
    rw (c.refresh_home-2.ensures, c.refresh_home.ensures, c.set.ensures, c.get-before.ensures.answerer)
    (answerer_set t c.self.invariant c.args.number c.args.to
    (rw kept.answerers (rw (← c.self.view_is) at c.requires.number)))
