-- What each change of a block table changes, and what it leaves.
use Rattle.std.proofs.Common.{◌≡◌, ◌≢◌, ℕ, ◌+◌, ◌%◌, ◌<◌, inl, inr, set, refl, arith, ◌∙◌}
use Rattle.std.specs.Prelude.{◌==◌, if◌then◌else◌}
use Rattle.std.proofs.Math.ListN.{length-set}
use Rattle.std.proofs.Math.Nat.{mul_comm}
use Rattle.std.proofs.lemmas.List.{get_or-set_same, get_or-set_other}
use Rattle.std.proofs.lemmas.Nat.{div_below}
use Rattle.tx_types.specs.Config.{blocks_of, slots_of}
use Rattle.tx_types.specs.declared.config.BlockState.{BlockState}
use Rattle.tx_types.specs.declared.config.BlockState.TheVariants.{Spare, Clean, Part, Shut}
use Rattle.die_alloc.specs.BlocksState.{BlocksState, IsBlocksState, no_block, use_of, block_state, block_of_slot, HasRoom, IsFull, with_use, with_slot}
use Rattle.die_alloc.specs.BlocksState.{table_with_spare}

-- the block that is named has what it is given
pub use_of-with_use_same : (t : BlocksState) → IsBlocksState t → (block : ℕ) (s : BlockState) (n : ℕ) →
    block < blocks_of t.shape
    → use_of (with_use t block s n) block ≡ record { state = s; used = n }
use_of-with_use_same t h block s n within = get_or-set_same t.blocks block _ no_block (rw h.count within)

-- each other block has what it had
pub use_of-with_use_other : (t : BlocksState) (block other : ℕ) (s : BlockState) (n : ℕ) → other ≢ block
    → use_of (with_use t block s n) other ≡ use_of t other
use_of-with_use_other t block other s n apart = get_or-set_other t.blocks block other _ no_block apart

-- the block of a slot is one of the table
pub block_within : (t : BlocksState) → IsBlocksState t → (at : ℕ) → at < slots_of t.shape →
    block_of_slot t.shape at < blocks_of t.shape
block_within t h at within =
    div_below at t.shape.pages_per_block (blocks_of t.shape) (omega (arith, h.numbers.pages_least))
    (omega (arith, within, mul_comm t.shape.pages_per_block (blocks_of t.shape)))

-- after a slot of it was used, a block has its slots used up to this one, and is shut where it has no other
pub use_of-with_slot_same : (t : BlocksState) → IsBlocksState t → (at : ℕ) → at < slots_of t.shape
    → use_of (with_slot t at) (block_of_slot t.shape at)
    ≡ record {
      state = if at % t.shape.pages_per_block + 1 == t.shape.pages_per_block then Shut else Part;
      used = at % t.shape.pages_per_block + 1;
    }
use_of-with_slot_same t h at within = use_of-with_use_same t h (block_of_slot t.shape at)
    _ _ (block_within t h at within)

pub use_of-with_slot_other : (t : BlocksState) (at other : ℕ) → other ≢ block_of_slot t.shape at →
    use_of (with_slot t at) other ≡ use_of t other
use_of-with_slot_other t at other apart = use_of-with_use_other t (block_of_slot t.shape at) other _ _ apart

-- the spare has no used slot
pub use_of-with_spare_same : (t : BlocksState) → IsBlocksState t → (block : ℕ) → block < blocks_of t.shape
    → use_of (table_with_spare t block) block ≡ record { state = Spare; used = 0 }
use_of-with_spare_same t h block within =
    get_or-set_same (set t.blocks t.spare (record { state = Clean; used = 0 })) block _ no_block
    (rw (length-set, h.count) within)

-- the block that was the spare before is clean
pub use_of-with_spare_old : (t : BlocksState) → IsBlocksState t → (block : ℕ) → t.spare ≢ block
    → use_of (table_with_spare t block) t.spare ≡ record { state = Clean; used = 0 }
use_of-with_spare_old t h block apart =
    get_or-set_other (set t.blocks t.spare (record { state = Clean; used = 0 })) block t.spare _ no_block apart
    ∙ use_of-with_use_same t h t.spare Clean 0 h.spare_within

-- each other block has what it had
pub use_of-with_spare_other : (t : BlocksState) (block other : ℕ) → other ≢ block → other ≢ t.spare
    → use_of (table_with_spare t block) other ≡ use_of t other
use_of-with_spare_other t block other apart from_old =
    get_or-set_other (set t.blocks t.spare (record { state = Clean; used = 0 })) block other _ no_block apart
    ∙ use_of-with_use_other t t.spare other Clean 0 from_old

-- a block with room is not the spare
pub has_room_not_spare : (t : BlocksState) → IsBlocksState t → (block : ℕ) → block < blocks_of t.shape →
    HasRoom t block → block ≢ t.spare
has_room_not_spare t h block within room is =
    let spare = (h.one_spare block within).1 is in
    elim room [ inl clean ↦ cc | inr part ↦ cc ]

-- where no block has room, each but the spare is shut
pub shut_where_full : (t : BlocksState) → IsBlocksState t → IsFull t → (block : ℕ) → block < blocks_of t.shape →
    block ≢ t.spare
    → block_state t block ≡ Shut
shut_where_full t h full block within apart = by_state (block_state t block) refl
  where
    by_state : (s : BlockState) → block_state t block ≡ s → s ≡ Shut
    by_state Shut e = refl
    by_state Spare e = absurd (apart ((h.one_spare block within).0 e))
    by_state Clean e = absurd (full block within (inl e))
    by_state Part e = absurd (full block within (inr e))
