use Rattle.image_file.proofs.Common.{◌≡◌, ℕ, ◌<◌, true, get_or, Blank, is_filled}
use Rattle.std.specs.Fork.{slice_chunk}
use Rattle.image_file.proofs.slots.wrong_bytes.Given as goal

abbrev pub invariant-loop-at : goal.invariant-loop-at
invariant-loop-at l = (k : ℕ) → k < l.at → is_filled (get_or l.seen k Blank) (slice_chunk l.cells l.size k) ≡ true
