-- No slot holds a record.
use Rattle.slot_tables.proofs.Common.{◌≡◌, ℕ, ◌<◌, List, [], length, refl, sym, ◌∙◌, get_or-replicate, length-replicate, SlotUse, Blank}
use Rattle.slot_tables.proofs.OfBaseTables.Held.{none_held}
use Rattle.slot_tables.proofs.OfBaseTables.Copying.{copies_none}
use Rattle.slot_tables.proofs.slots.Slots.new.Goals as goal

pub invariant_of-result : goal.invariant_of-result
invariant_of-result c =
    let uses = c.in_ok-vec.ensures.items_if_clones_equal (λ y same. same) in
    let copies = c.in_ok-new.ensures in
    let n = c.args.count in
    let long : length c.in_ok-vec.field-0.items ≡ n = rw uses (length-replicate {A = SlotUse} n Blank) in
    record {
      small = rw long c.requires;
      places = rw (copies, long) refl;
      keys = rw (copies, long) (length-replicate {A = List ℕ} n []);
      held = λ at number is. absurd (none_held n at number (rw uses at is));
      copies = λ number low.
          let lies : number < n = rw long at low in
          rw (copies, uses) (get_or-replicate {A = List ℕ} n number [] [] lies ∙ sym (copies_none n number));
    }
