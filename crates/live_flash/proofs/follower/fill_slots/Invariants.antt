use Rattle.live_flash.proofs.Common.{ℕ, ◌+◌, ◌<◌, slot_at, IsSlot}
use Rattle.std.specs.Fork.{slice_chunk}
use Rattle.live_flash.proofs.follower.fill_slots.Given as goal

abbrev pub invariant-loop-at : goal.invariant-loop-at
invariant-loop-at l =
    (k : ℕ) → k < l.at →
    IsSlot l.memory.shape.page_bytes (slot_at l.memory.image (l.first.0 + k)) (slice_chunk l.places l.size k)
