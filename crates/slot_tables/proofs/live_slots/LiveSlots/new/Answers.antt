-- At first there is no spare, and no block is closed.
use Rattle.slot_tables.proofs.Common.{◌≡◌, Bool, false, None, length, refl, ap, ◌∙◌, length-replicate}
use Rattle.slot_tables.specs.declared.live_slots.SlotMarks.{SlotMarks}
use Rattle.slot_tables.proofs.OfLiveSlots.Counted.{first_counts, counted_long}
use Rattle.slot_tables.proofs.live_slots.LiveSlots.new.Goals as goal

pub invariant_of-result : goal.invariant_of-result
invariant_of-result c =
    let marks : SlotMarks = record {
      needed = c.args.needed;
      blanks = c.args.blanks;
      closed = c.in-Ok.closed;
      spare = None;
    } in
    first_counts _ c.args.blocks (record {
      size = c.requires.size;
      needed = c.requires.needed;
      blanks = c.requires.blanks;
      closed = ap length c.in-Ok.ensures.closed ∙ length-replicate {A = Bool} c.args.blocks false;
    }) (rw c.size.ensures.size at c.size.ensures.some) c.size.ensures.small refl c.count_all.ensures
    (counted_long marks c.args.blocks c.count_all.new.garbage c.count_all.ensures)

pub returns-in-Ok : goal.returns-in-Ok
returns-in-Ok c =
    let marks : SlotMarks = record {
      needed = c.args.needed;
      blanks = c.args.blanks;
      closed = c.in-Ok.closed;
      spare = None;
    } in
    let long : length c.count_all.new.garbage ≡ c.args.blocks =
    counted_long marks c.args.blocks c.count_all.new.garbage c.count_all.ensures in
    rw (c.in-Ok.ensures.closed, long) refl
