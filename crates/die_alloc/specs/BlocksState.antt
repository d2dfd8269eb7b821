-- What is kept of the blocks of a flash, and what each change leaves.
use Rattle.std.specs.Prelude.{◌≡◌, ◌↔◌, ◌⊎◌, ℕ, ◌+◌, ◌-◌, ◌/◌, ◌%◌, ◌<◌, ◌≤◌, ◌==◌, if◌then◌else◌, List, length, replicate, slice_index_or, slice_set}
use Rattle.tx_types.specs.Config.{IsShape, blocks_of, slots_of}
use Rattle.tx_types.specs.declared.config.Shape.{Shape}
use Rattle.tx_types.specs.declared.config.BlockState.{BlockState}
use Rattle.tx_types.specs.declared.config.BlockState.TheVariants.{Spare, Clean, Part, Shut}
use Rattle.die_alloc.specs.declared.block_use.BlockUse.{BlockUse}

-- A block table: the shape of the flash, of each block its state and how many of its first slots are used, which
-- block is the spare, and the die at which the search for a slot begins.
pub record BlocksState : Type 0 where
  pub shape : Shape
  pub blocks : List BlockUse
  pub spare : ℕ
  pub cursor : ℕ

-- what stands for a block where there is none
abbrev pub no_block : BlockUse
no_block = record { state = Shut; used = 0 }

-- what is kept of a block
abbrev pub use_of : BlocksState → ℕ → BlockUse
use_of t block = slice_index_or t.blocks block no_block

-- what a block is kept for
abbrev pub block_state : BlocksState → ℕ → BlockState
block_state t block = (use_of t block).state

-- how many of its first slots are used
abbrev pub used_of : BlocksState → ℕ → ℕ
used_of t block = (use_of t block).used

-- how many used slots a block of this many slots may have in a state
abbrev pub MayHave : ℕ → BlockState → ℕ → Type 0
MayHave pages Spare used = used ≡ 0
MayHave pages Clean used = used ≡ 0
MayHave pages Part used = (1 ≤ used) × (used < pages)
MayHave pages Shut used = used ≤ pages

-- there is one spare, and each block has as many used slots as its state allows
pub record IsBlocksState (t : BlocksState) : Type 0 where
  pub numbers : IsShape t.shape
  pub count : length t.blocks ≡ blocks_of t.shape
  pub die : t.cursor < t.shape.dies
  pub spare_within : t.spare < blocks_of t.shape
  pub one_spare : (block : ℕ) → block < blocks_of t.shape → (block_state t block ≡ Spare) ↔
      (block ≡ t.spare)
  pub bounds : (block : ℕ) → block < blocks_of t.shape →
      MayHave t.shape.pages_per_block (block_state t block) (used_of t block)

-- a block has room where it is clean, or has a blank tail
abbrev pub HasRoom : BlocksState → ℕ → Type 0
HasRoom t block = (block_state t block ≡ Clean) ⊎ (block_state t block ≡ Part)

-- no block has room
abbrev pub IsFull : BlocksState → Type 0
IsFull t = (block : ℕ) → block < blocks_of t.shape → HasRoom t block → ⊥

-- no block of this die has room
abbrev pub IsFullIn : BlocksState → ℕ → Type 0
IsFullIn t die =
    (block : ℕ) → block < blocks_of t.shape → block / t.shape.blocks_per_die ≡ die → HasRoom t block → ⊥

-- the block that a slot lies in
abbrev pub block_of_slot : Shape → ℕ → ℕ
block_of_slot s at = at / s.pages_per_block

-- a slot is free: its block has room, and it comes after the used slots of the block
pub record IsFree (t : BlocksState) (at : ℕ) : Type 0 where
  pub within : at < slots_of t.shape
  pub room : HasRoom t (block_of_slot t.shape at)
  pub unused : used_of t (block_of_slot t.shape at) ≤ at % t.shape.pages_per_block

-- and it comes directly after them
pub record IsFirstFree (t : BlocksState) (at : ℕ) : Type 0 where
  pub free : IsFree t at
  pub first : at % t.shape.pages_per_block ≡ used_of t (block_of_slot t.shape at)

-- the block has this state and this many used slots
abbrev pub with_use : BlocksState → ℕ → BlockState → ℕ → BlocksState
with_use t block its_state its_used =
    record t { blocks = slice_set t.blocks block (record { state = its_state; used = its_used }) }

-- the slots of its block up to this one are used
abbrev pub with_slot : BlocksState → ℕ → BlocksState
with_slot t at =
    let count = at % t.shape.pages_per_block + 1 in
    with_use t (block_of_slot t.shape at)
    (if count == t.shape.pages_per_block then Shut else Part) count

-- the block is the spare, and the one that was it before is clean
abbrev pub table_with_spare : BlocksState → ℕ → BlocksState
table_with_spare t block =
    record (with_use (with_use t t.spare Clean 0) block Spare 0) { spare = block }

-- a table of clean blocks, of which the last is the spare
abbrev pub fresh_table : Shape → BlocksState
fresh_table s = record {
  shape = s;
  blocks =
      slice_set (replicate (blocks_of s) (record { state = Clean; used = 0 })) (blocks_of s - 1)
      (record { state = Spare; used = 0 });
  spare = blocks_of s - 1;
  cursor = 0;
}

-- a table of blocks of which this is kept, with this spare, while no slot was asked for
abbrev pub table_of_uses : Shape → List BlockUse → ℕ → BlocksState
table_of_uses s uses spare = record { shape = s; blocks = uses; spare = spare; cursor = 0 }
