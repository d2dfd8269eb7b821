-- Each change of a block table leaves one.
use Rattle.collector.proofs.Common.{◌≡◌, ◌≢◌, ◌⊎◌, ℕ, ◌+◌, ◌%◌, ◌<◌, ◌≤◌, Bool, true, false, eq-eqb, eqb-true, if◌then◌else◌, inl, inr, arith, ◌==◌, cases_Bool, blocks_of, Spare, Part, BlocksState, IsBlocksState, IsFree, block_of_slot, with_slot, has_room_not_spare, swapped, open_state}
use Rattle.std.proofs.Math.Nat.{mod-lt}
use Rattle.tx_types.specs.declared.config.BlockState.TheVariants.{Shut}
use Rattle.die_alloc.specs.BlocksState.{MayHave}
use Rattle.die_alloc.proofs.Changes.{block_within}
use Rattle.die_alloc.proofs.Swaps.{use_table, swapped_table}

-- the slots of a block up to one that was free are used
pub slot_table : (t : BlocksState) → IsBlocksState t → (at : ℕ) → IsFree t at → IsBlocksState (with_slot t at)
slot_table t h at free =
    let within = block_within t h at free.within in
    let least = h.numbers.pages_least in
    let low : at % t.shape.pages_per_block < t.shape.pages_per_block = mod-lt at (omega arith) in
    let count = at % t.shape.pages_per_block + 1 in
    use_table t h (block_of_slot t.shape at) (if count == t.shape.pages_per_block then Shut else Part) count within
    (has_room_not_spare t h (block_of_slot t.shape at) within free.room)
    (no_spare (count == t.shape.pages_per_block)) (may (cases_Bool (count == t.shape.pages_per_block)) low)
  where
    no_spare : (b : Bool) → (if b then Shut else Part) ≢ Spare
    no_spare true e = cc
    no_spare false e = cc

    apart : (a b : ℕ) → (a == b) ≡ false → a ≢ b
    apart a b e same = let yes = eq-eqb a b same in cc

    may : ((at % t.shape.pages_per_block + 1 == t.shape.pages_per_block) ≡ true)
        ⊎ ((at % t.shape.pages_per_block + 1 == t.shape.pages_per_block) ≡ false) →
        at % t.shape.pages_per_block < t.shape.pages_per_block →
        MayHave t.shape.pages_per_block (if at % t.shape.pages_per_block + 1 == t.shape.pages_per_block then Shut
        else Part) (at % t.shape.pages_per_block + 1)
    may (inl full) low = rw full (omega arith)
    may (inr more) low =
        (let other = apart (at % t.shape.pages_per_block + 1) t.shape.pages_per_block more in
        rw more (omega arith, omega arith))

-- a block whose first slots are used is no spare, and has as many used slots as its state allows
may_open : (pages used : ℕ) → used ≤ pages → (open_state pages used ≢ Spare)
    × MayHave pages (open_state pages used) used
may_open pages used within = by (cases_Bool (used == 0)) (cases_Bool (used == pages))
  where
    apart : (a b : ℕ) → (a == b) ≡ false → a ≢ b
    apart a b e same = let yes = eq-eqb a b same in cc

    by : ((used == 0) ≡ true) ⊎ ((used == 0) ≡ false) → ((used == pages) ≡ true) ⊎ ((used == pages) ≡ false) →
        (open_state pages used ≢ Spare) × MayHave pages (open_state pages used) used
    by (inl none) all = rw none ((λ e. cc), eqb-true used 0 none)
    by (inr some) (inl all) = rw (some, all) ((λ e. cc), within)
    by (inr some) (inr more) =
        let one = apart used 0 some in
        let other = apart used pages more in
        rw (some, more) ((λ e. cc), (omega (arith, one), omega (arith, within, other)))

-- and the old spare has this many used slots
pub table_swapped : (t : BlocksState) → IsBlocksState t → (block : ℕ) → block < blocks_of t.shape →
    block ≢ t.spare → (used : ℕ) →
    used ≤ t.shape.pages_per_block →
    IsBlocksState (swapped t block used)
table_swapped t h block within apart used most =
    let may = may_open t.shape.pages_per_block used most in
    swapped_table t h block (open_state t.shape.pages_per_block used) used within apart may.0 may.1
