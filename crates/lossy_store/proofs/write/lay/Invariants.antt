-- The places before this one have the bytes of the write, the others those from before.
use Rattle.lossy_store.proofs.Common.{◌≡◌, ℕ, ◌<◌, ◌≤◌, get_or, byte_over}
use Rattle.lossy_store.proofs.write.lay.Given as goal

abbrev pub invariant-loop-at : goal.invariant-loop-at
invariant-loop-at l = record {
  before : (k : ℕ) → k < l.at → get_or l.bytes k 0 ≡ byte_over l.write k (get_or l.initial.bytes k 0);
  behind : (k : ℕ) → l.at ≤ k → get_or l.bytes k 0 ≡ get_or l.initial.bytes k 0;
}
