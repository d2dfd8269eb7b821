-- What the marks of slots and blocks make of a block.
use Rattle.std.specs.Prelude.{◌≡◌, ℕ, ◌*◌, Bool, length, slice_set, if◌then◌else◌}
use Rattle.std.specs.Option.{option_map}
use Rattle.record_list.specs.Written.{is_slot}
use Rattle.slot_tables.specs.declared.live_slots.SlotMarks.{SlotMarks}
use Rattle.slot_tables.specs.Counts.{counted_in}

-- how many slots of a block are garbage
abbrev pub garbage_by : SlotMarks → ℕ → ℕ
garbage_by m block =
    if is_slot block (option_map (λ b. b.0) m.spare) then 0
    else counted_in m.needed.marks m.blanks.marks m.closed.items m.needed.size block

-- a slot is marked as needed, or not, and as blank, or not
abbrev pub marked_so : SlotMarks → ℕ → Bool → Bool → SlotMarks
marked_so m at needed blank = record m {
  needed = record m.needed { marks = slice_set m.needed.marks at needed };
  blanks = record m.blanks { marks = slice_set m.blanks.marks at blank };
}

-- there are marks for this many blocks
pub record AreSized (m : SlotMarks) (blocks : ℕ) : Type 0 where
  pub size : m.blanks.size ≡ m.needed.size
  pub needed : length m.needed.marks ≡ blocks * m.needed.size
  pub blanks : length m.blanks.marks ≡ blocks * m.needed.size
  pub closed : length m.closed.items ≡ blocks
