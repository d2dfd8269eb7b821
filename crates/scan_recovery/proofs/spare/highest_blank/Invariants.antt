use Rattle.scan_recovery.proofs.Common.{ℕ, ◌<◌, ◌≤◌, blocks_of}
use Rattle.judged_records.specs.Opening.{IsBlankBlock}
use Rattle.scan_recovery.proofs.spare.highest_blank.Given as goal

abbrev pub decreases-loop-block : goal.decreases-loop-block
decreases-loop-block l = l.block

-- no block from here on is all blank
abbrev pub invariant-loop-block : goal.invariant-loop-block
invariant-loop-block l = record {
  within : l.block ≤ blocks_of l.shape;
  none_above : (k : ℕ) → l.block ≤ k → k < blocks_of l.shape → IsBlankBlock l.shape l.seen k → ⊥;
}
