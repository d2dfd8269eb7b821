-- In which order the blocks of a die are taken.
use Rattle.std.specs.Prelude.{◌≡◌, ℕ, ◌*◌, ◌<◌, List, [], length, take, drop, slice_index, slice_index_or}
use Rattle.tx_types.specs.declared.config.Shape.{Shape}
use Rattle.tx_types.specs.declared.config.BlockState.{BlockState}
use Rattle.tx_types.specs.declared.config.BlockState.TheVariants.{Spare, Clean, Part, Shut}
use Rattle.die_alloc.specs.declared.block_use.BlockUse.{BlockUse}
use Rattle.die_alloc.specs.BlocksState.{no_block}

-- a block with a blank tail comes before a clean one; one without room has rank 0
abbrev pub rank_of : BlockState → ℕ
rank_of Part = 2
rank_of Clean = 1
rank_of Spare = 0
rank_of Shut = 0

-- the ranks of these blocks
pub record AreRanksOf (blocks : List BlockUse) (ranks : List ℕ) : Type 0 where
  pub size : length ranks ≡ length blocks
  pub each : (place : ℕ) → place < length blocks →
      slice_index ranks place ≡ rank_of (slice_index_or blocks place no_block).state

-- those of the blocks of each die
pub record AreRanks (s : Shape) (blocks : List BlockUse) (ranks : List (List ℕ)) : Type 0 where
  pub dies : length ranks ≡ s.dies
  pub each : (die : ℕ) → die < s.dies →
      AreRanksOf (take s.blocks_per_die (drop (die * s.blocks_per_die) blocks))
      (slice_index_or ranks die [])
