-- The search for the block with the most garbage, half-way.
use Rattle.std.specs.Prelude.{◌≡◌, ℕ, ◌<◌, ◌≤◌, Option, Some, None, MatchOption}
use Rattle.tx_types.specs.declared.config.Block.{Block}
use Rattle.die_alloc.specs.BlocksState.{BlocksState}
use Rattle.judged_records.specs.IndexState.{IndexState}
use Rattle.collector.specs.declared.choosing.Best.{Best}
use Rattle.collector.specs.Victim.{garbage_in}

-- of the blocks below this one none has more garbage, and of those with as much it is the lowest
pub record IsBest (n : IndexState) (t : BlocksState) (upto : ℕ) (best : Best) : Type 0 where
  pub at_most : (block : ℕ) → block < upto → garbage_in n t block ≤ best.garbage
  pub found :
      MatchOption best.block (best.garbage ≡ 0)
      (λ b. (b.0 < upto) × (garbage_in n t b.0 ≡ best.garbage) × (0 < best.garbage)
      × ((other : ℕ) → other < b.0 → garbage_in n t other < best.garbage))

-- none of these blocks has more garbage than so much
abbrev pub AreAtMost : IndexState → BlocksState → ℕ → ℕ → ℕ → Type 0
AreAtMost n t first end most = (block : ℕ) → first ≤ block → block < end → garbage_in n t block ≤ most

-- the first of some blocks that has more garbage than so much
abbrev pub FindsAbove : IndexState → BlocksState → ℕ → ℕ → ℕ → Option Block → Type 0
FindsAbove n t first end most None = AreAtMost n t first end most
FindsAbove n t first end most (Some block) =
    (first ≤ block.0) × (block.0 < end) × (most < garbage_in n t block.0) × AreAtMost n t first block.0 most
