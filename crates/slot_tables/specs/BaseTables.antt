-- What the tables are given.
use Rattle.std.specs.Prelude.{◌≡◌, ◌≢◌, ℕ, ◌==◌, ◌⊎◌, Bool, true, false, Option, Some, None, List, length, slice_set, if◌then◌else◌}
use Rattle.std.specs.Option.{option_map, option_and_then}
use Rattle.slot_tables.specs.declared.base_tables.BaseTables.{BaseTables}
use Rattle.slot_tables.specs.declared.slots.SlotUse.TheVariants.{Holds}
use Rattle.slot_tables.specs.TablesState.{TablesState, IsTablesState, home_in, home, use_at, slots_in, is_needed, is_wanted}
use Rattle.slot_tables.specs.Counts.{LiveSlotsState, is_marked}
use Rattle.std.specs.List.{Contains}

abbrev pub tables_state : BaseTables → TablesState
tables_state g = record {
  shape = g.shape;
  slots = g.slots;
  records = g.records.records;
  pages = g.records.pages;
  current = g.current;
  answerers = g.answers;
  waits = g.waits.waits;
  pins = g.pins.items;
  spare = option_map (λ block. block.0) g.spare;
  closed = g.closed.items;
}

-- the tables have one entry for each slot, each number, each page or each block
pub record IsSized (g : BaseTables) : Type 0 where
  pub kept : IsTablesState (tables_state g)
  pub waits_pages : g.waits.pages ≡ length g.records.pages

-- the marks of the needed slots with that of one slot said anew, if there is one
abbrev pub refreshed : TablesState → List Bool → Option ℕ → List Bool
refreshed k needed None = needed
refreshed k needed (Some at) = slice_set needed at (is_needed k at)

-- with that of one slot set, if there is one
abbrev pub marked : List Bool → Option ℕ → List Bool
marked marks None = marks
marked marks (Some at) = slice_set marks at true

-- with that of the home of a record, where it is wanted
abbrev pub home_marked : TablesState → List Bool → ℕ → List Bool
home_marked k marks number = if is_wanted k number then marked marks (home k number) else marks

abbrev pub is_same_slot : Option ℕ → Option ℕ → Bool
is_same_slot None None = true
is_same_slot None (Some other) = false
is_same_slot (Some slot) None = false
is_same_slot (Some slot) (Some other) = slot == other

-- with those of two slots, if they are not the same
abbrev pub moved_refreshed : TablesState → List Bool → Option ℕ → Option ℕ → List Bool
moved_refreshed k needed before after =
    if is_same_slot before after then needed else refreshed k (refreshed k needed before) after

-- with those of its homes by an older spare and now, if they are not the same
abbrev pub block_refreshed : TablesState → Option ℕ → List Bool → Option ℕ → List Bool
block_refreshed k older needed number =
    moved_refreshed k needed (option_and_then (home_in k.shape older k.slots) number)
    (option_and_then (home k) number)

-- a slot is, or was by an older spare, the home of a record with a slot in this block, whose home moved
pub record IsHomeFrom (k : TablesState) (older : Option ℕ) (block at : ℕ) : Type 0 where
  pub slot : ℕ
  pub number : ℕ
  pub within : Contains (slots_in k.shape block) slot
  pub holds : use_at k.slots slot ≡ Holds number
  pub moved : home_in k.shape older k.slots number ≢ home k number
  pub home : (home k number ≡ Some at) ⊎ (home_in k.shape older k.slots number ≡ Some at)

-- each slot that is or was the home of a record with a slot in this block, whose home moved, is marked as it is
-- needed, and the mark of each other one stays or is so too
pub record IsRefreshedFrom (k : TablesState) (older : Option ℕ) (block : ℕ) (old new : LiveSlotsState) : Type 0 where
  pub size : new ≡ record old { needed = new.needed }
  pub slots : length new.needed ≡ length old.needed
  pub homes : (at : ℕ) → IsHomeFrom k older block at → is_marked new.needed at ≡ is_needed k at
  pub others : (at : ℕ) → (is_marked new.needed at ≡ is_marked old.needed at)
      ⊎ (is_marked new.needed at ≡ is_needed k at)
