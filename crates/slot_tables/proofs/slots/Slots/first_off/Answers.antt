-- The first slot that passes is the first of the copies that does.
use Rattle.slot_tables.proofs.Common.{◌<◌, length, sym, ◌∙◌, list_of}
use Rattle.slot_tables.proofs.OfRecords.Rising.{find_first}
use Rattle.slot_tables.proofs.slots.Slots.first_off.Goals as goal

pub returns-then-is_outside : goal.returns-then-is_outside
returns-then-is_outside c =
    let inv = rw c.in-Some.is at c.loop-slot.invariant in
    let low : c.args.number < length c.self.inside.uses.items = rw (← c.self.view_is) at c.requires.number in
    let first = find_first _ (list_of c.self.inside.copies c.args.number) c.in-Some.at inv.1 (sym c.is_outside.ensures
    ∙ c.if-is_outside.true) in
    rw (← c.self.view_is, ← c.self.invariant.copies c.args.number low) (sym first ∙ inv.0)
