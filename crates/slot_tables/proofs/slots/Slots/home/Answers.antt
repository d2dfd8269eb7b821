-- The only copy is the home.
use Rattle.slot_tables.proofs.Common.{◌∙◌, sym, option_map, copies_of, is_outside_spare}
use Rattle.slot_tables.proofs.OfSlots.Leaving.{chosen_first}
use Rattle.slot_tables.proofs.slots.Slots.home.Goals as goal

pub returns-then-is_single : goal.returns-then-is_single
returns-then-is_single c =
    c.first.ensures
    ∙ sym (chosen_first (is_outside_spare c.args.shape (option_map (λ b. b.0) c.args.spare))
    (copies_of c.args.self.now c.args.number) (c.is_single.ensures c.if-is_single.true))
