-- How tables that are being filled keep what they are given.
use Rattle.std.specs.Prelude.{◌≡◌, false, None, replicate}
use Rattle.tx_types.specs.Config.{blocks_of}
use Rattle.slot_tables.specs.declared.tables_builder.TablesBuilder.TheInside.{Inside}
use Rattle.slot_tables.specs.TablesState.{TablesState}
use Rattle.slot_tables.specs.BaseTables.{tables_state, IsSized}
use Rattle.slot_tables.specs.Tables.{AreBlanks}

abbrev pub builder_of : Inside → TablesState
builder_of f = tables_state f.base

-- the tables have the right sizes, the marks are those of the blank slots, there is no spare, and no block is closed
pub record TablesBuilderInvariant (f : Inside) : Type 0 where
  pub sized : IsSized f.base
  pub blanks : AreBlanks (tables_state f.base) f.blanks
  pub spare : f.base.spare ≡ None
  pub closed : f.base.closed.items ≡ replicate (blocks_of f.base.shape) false
