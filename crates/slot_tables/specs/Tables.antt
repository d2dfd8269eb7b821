-- How the tables keep what they are given, and what follows from it.
use Rattle.std.specs.Prelude.{◌≡◌, ℕ, length, map}
use Rattle.tx_types.specs.Config.{blocks_of, slots_of}
use Rattle.slot_tables.specs.declared.tables.Tables.TheInside.{Inside}
use Rattle.slot_tables.specs.TablesState.{TablesState, is_blank, is_needed}
use Rattle.slot_tables.specs.Counts.{BlockCountsState, LiveSlotsState, is_marked}
use Rattle.slot_tables.specs.BaseTables.{tables_state, IsSized}

abbrev pub tables_of : Inside → TablesState
tables_of t = tables_state t.base

-- the marks are those of the blank slots
pub record AreBlanks (k : TablesState) (m : BlockCountsState) : Type 0 where
  pub marks : m.marks ≡ map is_blank k.slots
  pub size : m.size ≡ k.shape.pages_per_block

-- the marks are those of the needed slots, and the closed blocks are those
pub record AreMarked (k : TablesState) (n : LiveSlotsState) : Type 0 where
  pub slots : length n.needed ≡ slots_of k.shape
  pub size : n.size ≡ k.shape.pages_per_block
  pub blocks : n.blocks ≡ blocks_of k.shape
  pub spare : n.spare ≡ k.spare
  pub closed : n.closed ≡ k.closed
  pub needed : (at : ℕ) → is_marked n.needed at ≡ is_needed k at

-- the tables have the right sizes, and the marks are those of what was given
pub record TablesInvariant (t : Inside) : Type 0 where
  pub sized : IsSized t.base
  pub blanks : AreBlanks (tables_state t.base) (record { marks = t.live.blanks; size = t.live.size })
  pub live : AreMarked (tables_state t.base) t.live
