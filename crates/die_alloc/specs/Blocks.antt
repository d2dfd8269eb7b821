-- How a block table is kept.
use Rattle.std.specs.Prelude.{◌≡◌}
use Rattle.die_alloc.specs.BlocksState.{BlocksState, IsBlocksState}
use Rattle.die_alloc.specs.Ranks.{AreRanks}
use Rattle.die_alloc.specs.declared.blocks.Blocks.TheInside.{Inside}

abbrev pub table_of : Inside → BlocksState
table_of b =
    record { shape = b.shape; blocks = b.blocks.items; spare = b.spare.0; cursor = b.cursor }

-- its divisors are those of its shape, and its ranks those of its blocks
pub record BlocksInvariant (b : Inside) : Type 0 where
  pub table : IsBlocksState (table_of b)
  pub pages : b.pages ≡ b.shape.pages_per_block
  pub die_blocks : b.die_blocks ≡ b.shape.blocks_per_die
  pub ranks : AreRanks b.shape b.blocks.items b.ranks.items
