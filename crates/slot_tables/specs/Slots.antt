-- How the copies of each record are kept.
use Rattle.std.specs.Prelude.{◌≡◌, ℕ, ◌<◌, ◌≤◌, List, length}
use Rattle.dense_tables.specs.LinkedLists.{list_of}
use Rattle.slot_tables.specs.declared.slots.SlotUse.{SlotUse}
use Rattle.slot_tables.specs.declared.slots.SlotUse.TheVariants.{Holds}
use Rattle.slot_tables.specs.declared.slots.Slots.TheInside.{Inside}
use Rattle.slot_tables.specs.TablesState.{use_at, copies_of}

abbrev pub uses_of : Inside → List SlotUse
uses_of s = s.uses.items

-- each list has the copies of its number
pub record SlotsInvariant (s : Inside) : Type 0 where
  pub small : length s.uses.items ≤ 65536
  pub places : s.copies.places ≡ length s.uses.items
  pub keys : length s.copies.lists ≡ length s.uses.items
  pub held : (at number : ℕ) → use_at s.uses.items at ≡ Holds number → number < length s.uses.items
  pub copies : (number : ℕ) → number < length s.uses.items →
      list_of s.copies number ≡ copies_of s.uses.items number
