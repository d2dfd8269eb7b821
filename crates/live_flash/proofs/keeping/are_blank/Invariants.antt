use Rattle.live_flash.proofs.Common.{◌≡◌, ◌≤◌, ◌<◌, ℕ, blank, slot_at}
use Rattle.live_flash.proofs.keeping.are_blank.Given as goal

abbrev pub invariant-loop-number : goal.invariant-loop-number
invariant-loop-number l = (k : ℕ) → l.first ≤ k → k < l.number → slot_at l.memory.image k ≡ blank
