use Rattle.sorted_records.proofs.Common.{◌≡◌, ◌≢◌, ℕ, ◌<◌, [], New, seen_at, IsFollowed, StaysSeen}
use Rattle.std.proofs.Common.{slice_index_or}
use Rattle.sorted_records.proofs.orbits.follow_each.Given as goal

abbrev pub invariant-loop-node : goal.invariant-loop-node
invariant-loop-node l = record {
  path : l.path.items ≡ [];
  followed : IsFollowed l.graph l.seen [];
  stays : StaysSeen l.fn.seen l.seen;
  before : (k : ℕ) → k < l.node-index → seen_at l.seen (slice_index_or l.nodes k 0) ≢ New;
}
