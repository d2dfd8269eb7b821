-- The home of a record is needed where the record is wanted.
use Rattle.slot_tables.proofs.Common.{◌<◌, Bool, ℕ, Option, Some, length, set, sym, subst, ap, ◌∙◌, IfSome, tables_state, refreshed}
use Rattle.slot_tables.proofs.OfLiveSlots.Needing.{home_lies, home_wanted}
use Rattle.slot_tables.proofs.base_tables.BaseTables.refresh_wanted.Goals as goal

pub set-requires : goal.set-requires
set-requires c =
    let k = tables_state c.args.self.now in
    rw c.requires.live (subst (λ o. IfSome o (λ s. s < length k.slots)) (sym c.requires.home ∙ c.in-Some.is)
    (home_lies k (Some c.args.number)))

pub returns-in-Some : goal.returns-in-Some
returns-in-Some c =
    let k = tables_state c.args.self.now in
    let live = c.args.live.now in
    let its = home_wanted k c.args.number c.in-Some.at (sym c.requires.home ∙ c.in-Some.is) in
    c.set.ensures
    ∙ ap (λ (b : Bool). record live { needed = set live.needed c.in-Some.at b }) (c.is_wanted.ensures ∙ sym its)
    ∙ ap (λ (o : Option ℕ). record live { needed = refreshed k live.needed o }) (sym c.in-Some.is)
