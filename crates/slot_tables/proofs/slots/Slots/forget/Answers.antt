-- The slot was in the list of its record.
use Rattle.slot_tables.proofs.Common.{◌<◌, length, sym, ◌∙◌, get_or_read, Blank}
use Rattle.slot_tables.proofs.OfBaseTables.Held.{list_has, forgot}
use Rattle.slot_tables.proofs.slots.Slots.forget.Goals as goal

pub remove-requires : goal.remove-requires
remove-requires c =
    let s = c.self.inside in
    let low : c.args.at < length s.uses.items = rw (← c.self.view_is) at c.requires in
    list_has s c.self.invariant c.args.at c.in-Holds.number low (sym
    (get_or_read s.uses.items c.args.at c.index.result.now low c.index.ensures Blank) ∙ c.in-Holds.is)

pub invariant_of-self : goal.invariant_of-self
invariant_of-self c =
    let s = c.self.inside in
    let low : c.args.at < length s.uses.items = rw (← c.self.view_is) at c.requires in
    rw c.remove.ensures.without
    (forgot s c.self.invariant c.args.at c.in-Holds.number low (sym
    (get_or_read s.uses.items c.args.at c.index.result.now low c.index.ensures Blank) ∙ c.in-Holds.is))
