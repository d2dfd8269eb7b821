use Rattle.scan_recovery.proofs.Common.{◌≡◌, ℕ, ◌<◌, length, get_or, blocks_of}
use Rattle.die_alloc.specs.BlocksState.{no_block}
use Rattle.die_alloc.specs.Opening.{use_in}
use Rattle.scan_recovery.proofs.opening.block_uses.Given as goal

-- the uses so far are those of the first blocks
abbrev pub invariant-loop-block : goal.invariant-loop-block
invariant-loop-block l = record {
  whole : length l.uses.items ≡ blocks_of l.shape;
  done : (k : ℕ) → k < l.block → get_or l.uses.items k no_block ≡ use_in l.shape l.seen l.fn.spare.0 k;
}
