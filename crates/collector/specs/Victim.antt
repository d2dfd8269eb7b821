-- Which block is collected: the one outside the spare with the most garbage.
use Rattle.std.specs.Prelude.{◌≡◌, ℕ, ◌<◌, ◌≤◌, Bool, true, false, Option, Some, None}
use Rattle.tx_types.specs.Config.{shape_of, blocks_of}
use Rattle.tx_types.specs.declared.config.Block.{Block}
use Rattle.tx_types.specs.declared.config.BlockState.{BlockState}
use Rattle.tx_types.specs.declared.config.BlockState.TheVariants.{Spare, Clean, Part, Shut}
use Rattle.judged_records.specs.IndexState.{IndexState, garbage_of}
use Rattle.die_alloc.specs.BlocksState.{BlocksState, block_state}

abbrev pub is_shut : BlockState → Bool
is_shut Spare = false
is_shut Clean = false
is_shut Part = false
is_shut Shut = true

-- the number of garbage slots of a block: none in the spare
abbrev pub garbage_in : IndexState → BlocksState → ℕ → ℕ
garbage_in n t block = garbage_of n block (is_shut (block_state t block))

-- the block has garbage, none has more, and none that is lower has as much
pub record IsVictim (n : IndexState) (t : BlocksState) (block : ℕ) : Type 0 where
  pub exists : block < blocks_of (shape_of n.config)
  pub some : 0 < garbage_in n t block
  pub most : (other : ℕ) → other < blocks_of (shape_of n.config) →
      garbage_in n t other ≤ garbage_in n t block
  pub lowest : (other : ℕ) → other < block → garbage_in n t other < garbage_in n t block

-- no slot outside the spare is garbage
abbrev pub HasNoGarbage : IndexState → BlocksState → Type 0
HasNoGarbage n t = (block : ℕ) → block < blocks_of (shape_of n.config) → garbage_in n t block ≡ 0

abbrev pub FindsVictim : IndexState → BlocksState → Option Block → Type 0
FindsVictim n t None = HasNoGarbage n t
FindsVictim n t (Some block) = IsVictim n t block.0
