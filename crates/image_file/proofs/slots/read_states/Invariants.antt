use Rattle.image_file.proofs.Common.{◌≡◌, ℕ, ◌<◌, false, get_or, take, is_none, seen_from, all_seen}
use Rattle.image_file.proofs.slots.read_states.Given as goal

abbrev pub invariant-loop-at : goal.invariant-loop-at
invariant-loop-at l = record {
  known : (k : ℕ) → k < l.at → is_none (seen_from (get_or l.states k 0)) ≡ false;
  read : l.seen.items ≡ all_seen (take l.at l.states);
}
