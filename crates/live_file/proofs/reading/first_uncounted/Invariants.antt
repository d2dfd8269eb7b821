use Rattle.std.proofs.Common.{ℕ, ◌<◌}
use Rattle.std.specs.Fork.{slice_chunk}
use Rattle.live_image.specs.Slots.{IsCounted}
use Rattle.live_file.proofs.reading.first_uncounted.Given as goal

abbrev pub invariant-loop-at : goal.invariant-loop-at
invariant-loop-at l = (k : ℕ) → k < l.at → IsCounted (slice_chunk l.slots l.size k)
