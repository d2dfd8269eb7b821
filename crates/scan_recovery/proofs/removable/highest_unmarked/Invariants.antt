use Rattle.scan_recovery.proofs.Common.{◌≡◌, ℕ, ◌<◌, ◌≤◌, false, get_or, blocks_of}
use Rattle.scan_recovery.proofs.removable.highest_unmarked.Given as goal

abbrev pub decreases-loop-block : goal.decreases-loop-block
decreases-loop-block l = l.block

-- each block from here on is marked
abbrev pub invariant-loop-block : goal.invariant-loop-block
invariant-loop-block l = record {
  within : l.block ≤ blocks_of l.fn.shape;
  none_above : (k : ℕ) → l.block ≤ k → k < blocks_of l.fn.shape → get_or l.marks k false ≡ false → ⊥;
}
