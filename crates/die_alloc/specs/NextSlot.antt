-- The slot that is programmed next: records go round the dies, and in a die to the lowest block that has room.
use Rattle.std.specs.Prelude.{ℕ, ◌+◌, ◌-◌, ◌*◌, ◌/◌, ◌%◌, Bool, true, false, List, [], ◌∷◌, ◌++◌, take, drop, position, Option, None}
use Rattle.std.specs.List.{range_with_len}
use Rattle.std.specs.Option.{option_map, option_or, option_map_or}
use Rattle.tx_types.specs.declared.config.Slot.{Slot}
use Rattle.tx_types.specs.declared.config.Shape.{Shape}
use Rattle.tx_types.specs.declared.config.BlockState.{BlockState}
use Rattle.tx_types.specs.declared.config.BlockState.TheVariants.{Spare, Clean, Part, Shut}
use Rattle.die_alloc.specs.declared.block_use.BlockUse.{BlockUse}
use Rattle.die_alloc.specs.BlocksState.{BlocksState, used_of}

-- whether a block was programmed in this session and has a blank tail
abbrev pub is_part : BlockState → Bool
is_part Part = true
is_part Spare = false
is_part Clean = false
is_part Shut = false

-- whether a block is all blank
abbrev pub is_clean : BlockState → Bool
is_clean Clean = true
is_clean Spare = false
is_clean Part = false
is_clean Shut = false

-- what is kept of the blocks of a die, the lowest first
abbrev pub die_blocks : BlocksState → ℕ → List BlockUse
die_blocks t die = take t.shape.blocks_per_die (drop (die * t.shape.blocks_per_die) t.blocks)

-- the lowest block of a die whose state passes the test
abbrev pub lowest_block : (BlockState → Bool) → BlocksState → ℕ → Option ℕ
lowest_block test t die =
    option_map (λ k. die * t.shape.blocks_per_die + k)
    (position (λ b. test b.state) (die_blocks t die))

-- the block of a die that has room: the lowest one with a blank tail, else the lowest one that is clean
unfoldable pub open_block : BlocksState → ℕ → Option ℕ
open_block t die = option_or (lowest_block is_part t die) (lowest_block is_clean t die)

-- the dies in cyclic order, from one of them on
abbrev pub dies_from : ℕ → ℕ → List ℕ
dies_from count die = range_with_len die (count - die) ++ range_with_len 0 die

-- the first answer that is not None
abbrev pub first_answer : {A B : Type 0} → (A → Option B) → List A → Option B
first_answer f [] = None
first_answer f (x ∷ xs) = option_or (f x) (first_answer f xs)

-- the block that is programmed next
unfoldable pub next_block : BlocksState → Option ℕ
next_block t = first_answer (open_block t) (dies_from t.shape.dies t.cursor)

-- the first slot of a block after its used ones
abbrev pub first_unused : BlocksState → ℕ → Slot
first_unused t block = record { 0 = block * t.shape.pages_per_block + used_of t block }

-- the slot that is programmed next
unfoldable pub next_slot : BlocksState → Option Slot
next_slot t = option_map (first_unused t) (next_block t)

-- the slot of a die that is programmed next
unfoldable pub next_slot_in : BlocksState → ℕ → Option Slot
next_slot_in t die = option_map (first_unused t) (open_block t die)

-- the die after the one that a block lies in, in cyclic order
abbrev pub die_after : Shape → ℕ → ℕ
die_after s block = (block / s.blocks_per_die + 1) % s.dies

-- the table after its next slot was asked for: the search goes on at the die after the one taken
abbrev pub after_next_slot : BlocksState → BlocksState
after_next_slot t = record t { cursor = option_map_or (die_after t.shape) (next_block t) t.cursor }
