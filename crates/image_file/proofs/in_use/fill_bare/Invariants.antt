use Rattle.image_file.proofs.Common.{◌≡◌, ℕ, ◌<◌, ◌≤◌, length, get_or, Blank}
use Rattle.std.specs.Fork.{slice_chunk}
use Rattle.image_file.specs.InUse.{filled_as}
use Rattle.image_file.proofs.in_use.fill_bare.Given as goal

abbrev pub invariant-loop-at : goal.invariant-loop-at
invariant-loop-at l = record {
  filled : (k : ℕ) → k < l.at → slice_chunk l.cells l.size k
      ≡ filled_as l.size (get_or l.seen k Blank) (slice_chunk l.initial.cells l.size k);
  rest : (k : ℕ) → l.at ≤ k → k < length l.seen → slice_chunk l.cells l.size k
      ≡ slice_chunk l.initial.cells l.size k;
}
