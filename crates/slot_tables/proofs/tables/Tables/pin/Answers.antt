-- The homes of the records that the old and the new pin name are refreshed.
use Rattle.slot_tables.proofs.Common.{◌<◌, length, sym, ◌∙◌}
use Rattle.slot_tables.proofs.OfBaseTables.Refreshing.{pin_set, found_lies}
use Rattle.slot_tables.proofs.tables.Tables.pin.Goals as goal

pub pinned_number-before-requires-clause-above : goal.pinned_number-before-requires-clause-above
pinned_number-before-requires-clause-above c = rw (← c.self.view_is) at c.requires.above

pub refresh_home-requires-clause-number : goal.refresh_home-requires-clause-number
refresh_home-requires-clause-number c =
    let kept = c.self.invariant.sized.kept in
    found_lies _ _ _ c.pinned_number-before.result (kept.slots ∙ sym kept.records) c.pinned_number-before.ensures.found

pub refresh_home-requires-2-clause-number : goal.refresh_home-requires-2-clause-number
refresh_home-requires-2-clause-number c =
    let kept = c.self.invariant.sized.kept in
    found_lies _ _ _ c.number_of-now.result (kept.slots ∙ sym kept.records) c.number_of-now.ensures.found

pub invariant_of-self : goal.invariant_of-self
invariant_of-self c =
    let t = c.self.inside in
    let kept = c.self.invariant.sized.kept in
    let low : c.args.page < length t.base.pins.items = rw kept.pins (rw (← c.self.view_is) at c.requires.page) in
    rw (c.refresh_home-2.ensures, c.refresh_home.ensures)
    (pin_set t c.self.invariant c.args.page c.args.version c.pinned_number-before.result c.number_of-now.result low
    (λ number r e names. (c.pinned_number-before.ensures.names number r e).0 names)
    (λ number r e names. (c.number_of-now.ensures.names number r e).0 names))
