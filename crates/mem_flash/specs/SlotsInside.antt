-- How the slots of a flash are kept.
use Rattle.std.specs.Prelude.{◌≡◌, ℕ, ◌+◌, ◌*◌, List, length, drop}
use Rattle.tx_types.specs.Config.{IsShape, slots_of}
use Rattle.mem_flash.specs.Slots.{SlotsState, cell_bytes, image_of, AreFilled}
use Rattle.mem_flash.specs.declared.slots.Slots.TheInside.{Inside}

-- the bytes of the slots, which stand behind the head
abbrev pub cells_of : Inside → List ℕ
cells_of s = drop s.head s.bytes.items

abbrev pub slots_inside : Inside → SlotsState
slots_inside s =
    record { shape = s.shape; image = image_of s.shape.page_bytes s.seen.items (cells_of s) }

-- there is one state for each slot, and the bytes of each, which fit how it reads
pub record SlotsInvariant (s : Inside) : Type 0 where
  pub shape : IsShape s.shape
  pub slots : length s.seen.items ≡ slots_of s.shape
  pub bytes : length s.bytes.items ≡ s.head + slots_of s.shape * cell_bytes s.shape.page_bytes
  pub filled : AreFilled s.shape.page_bytes s.seen.items (cells_of s)
