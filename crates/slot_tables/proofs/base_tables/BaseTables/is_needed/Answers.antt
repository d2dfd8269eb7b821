-- By the number that the slot holds.
use Rattle.slot_tables.proofs.Common.{sym, ◌∙◌, tables_state}
use Rattle.slot_tables.proofs.OfLiveSlots.Needing.{needed_some, needed_none}
use Rattle.slot_tables.proofs.base_tables.BaseTables.is_needed.Goals as goal

pub returns-in-None : goal.returns-in-None
returns-in-None c = sym (needed_none (tables_state c.args.self.now) c.args.at
    (rw (← c.get.ensures, ← c.number_in-held.ensures) c.in-None.is))

pub returns-then-is_at : goal.returns-then-is_at
returns-then-is_at c =
    let is = needed_some (tables_state c.args.self.now) c.args.at c.in-Some.number
    (rw (← c.get.ensures, ← c.number_in-held.ensures) c.in-Some.is) in
    let home = rw c.home_of.ensures at (sym c.is_at.ensures ∙ c.if-is_at.true) in
    rw (is, home) c.is_wanted.ensures

pub returns-else-is_at : goal.returns-else-is_at
returns-else-is_at c =
    let is = needed_some (tables_state c.args.self.now) c.args.at c.in-Some.number
    (rw (← c.get.ensures, ← c.number_in-held.ensures) c.in-Some.is) in
    let home = rw c.home_of.ensures at (sym c.is_at.ensures ∙ c.if-is_at.false) in
    rw (is, home) c.if-is_at.false
