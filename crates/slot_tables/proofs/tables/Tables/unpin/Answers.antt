-- The home of the record that the old pin names is refreshed where it is not current, and the new pin names none.
use Rattle.slot_tables.proofs.Common.{◌≡◌, ℕ, ◌<◌, Bool, true, false, not, eqb, eqb-true, false≢true, Option, Some, None, length, refl, sym, ◌∙◌, ap, arith}
use Rattle.std.specs.Option.{option_eq}
use Rattle.slot_tables.proofs.OfBaseTables.Refreshing.{pin_set, pin_left, found_lies}
use Rattle.slot_tables.proofs.tables.Tables.unpin.Goals as goal

passes : (b : Bool) → false ≡ not b → b ≡ true
passes true e = refl
passes false e = absurd (false≢true e)

same_options : (a b : Option ℕ) → false ≡ not (option_eq eqb a b) → a ≡ b
same_options None None e = refl
same_options None (Some y) e = absurd (false≢true e)
same_options (Some x) None e = absurd (false≢true e)
same_options (Some x) (Some y) e = ap Some (eqb-true x y (passes (eqb x y) e))

pub pinned_number-before-requires-clause-above : goal.pinned_number-before-requires-clause-above
pinned_number-before-requires-clause-above c = rw (← c.self.view_is) at c.requires.above

pub refresh_home-requires-clause-number : goal.refresh_home-requires-clause-number
refresh_home-requires-clause-number c =
    let kept = c.self.invariant.sized.kept in
    found_lies _ _ _ c.pinned_number-before.result (kept.slots ∙ sym kept.records) c.pinned_number-before.ensures.found

pub invariant_of-self : goal.invariant_of-self
invariant_of-self c =
    let t = c.self.inside in
    let kept = c.self.invariant.sized.kept in
    let low : c.args.page < length t.base.pins.items = rw kept.pins (rw (← c.self.view_is) at c.requires.page) in
    let above = rw (← c.self.view_is) at c.requires.above in
    rw c.refresh_home.ensures
    (pin_set t c.self.invariant c.args.page 0 c.pinned_number-before.result None low
    (λ number r e names. (c.pinned_number-before.ensures.names number r e).0 names)
    (λ number r e names. absurd (omega (arith, above number r e names.0, names.1))))

pub invariant_of-self-else-ne : goal.invariant_of-self-else-ne
invariant_of-self-else-ne c =
    let t = c.self.inside in
    let kept = c.self.invariant.sized.kept in
    let low : c.args.page < length t.base.pins.items = rw kept.pins (rw (← c.self.view_is) at c.requires.page) in
    let above = rw (← c.self.view_is) at c.requires.above in
    let same : c.pinned_number-before.result ≡ c.get-current.result =
    same_options _ _ (sym c.if-ne.false ∙ c.ne.ensures) in
    pin_left t c.self.invariant c.args.page 0 low
    (λ number r e names. sym c.get-current.ensures ∙ sym same ∙ (c.pinned_number-before.ensures.names number r e).0 names)
    (λ number r e names. absurd (omega (arith, above number r e names.0, names.1)))
