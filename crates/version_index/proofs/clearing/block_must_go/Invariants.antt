-- No slot of the block before this one holds a record that goes.
use Rattle.version_index.proofs.Common.{ℕ, ◌<◌, ◌≤◌}
use Rattle.version_index.specs.Going.{SlotMustGo}
use Rattle.version_index.proofs.clearing.block_must_go.Given as goal

abbrev pub invariant-loop-at : goal.invariant-loop-at
invariant-loop-at l = (s : ℕ) → l.first ≤ s → s < l.at → SlotMustGo l.tables l.page l.below s → ⊥
