-- How the needed slots and the garbage of the blocks are kept.
use Rattle.std.specs.Prelude.{◌≡◌, ◌<◌, ◌≤◌, IfSome, length}
use Rattle.std.specs.Option.{option_map}
use Rattle.slot_tables.specs.declared.live_slots.LiveSlots.TheInside.{Inside}
use Rattle.slot_tables.specs.Counts.{LiveSlotsState, garbage_counts}
use Rattle.slot_tables.specs.SlotMarks.{AreSized}

abbrev pub live_of : Inside → LiveSlotsState
live_of n = record {
  needed = n.marks.needed.marks;
  blanks = n.marks.blanks.marks;
  closed = n.marks.closed.items;
  size = n.marks.needed.size;
  blocks = length n.garbage;
  spare = option_map (λ block. block.0) n.marks.spare;
}

-- the numbers of the blocks are those of their garbage slots
pub record LiveSlotsInvariant (n : Inside) : Type 0 where
  pub sized : AreSized n.marks (length n.garbage)
  pub positive : 0 < n.marks.needed.size
  pub small : length n.marks.needed.marks ≤ 65536
  pub spare : IfSome n.marks.spare (λ block. block.0 < length n.garbage)
  pub garbage : n.garbage ≡ garbage_counts (live_of n)
