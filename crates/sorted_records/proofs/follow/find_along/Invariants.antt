use Rattle.sorted_records.proofs.Common.{◌≢◌, length, New, seen_at, IsFollowed, IsBehind, StaysSeen}
use Rattle.sorted_records.proofs.follow.find_along.Given as goal

abbrev pub invariant-loop-at : goal.invariant-loop-at
invariant-loop-at l = record {
  followed : IsFollowed l.graph l.seen l.path.items;
  behind : IsBehind l.graph l.seen l.path.items l.behind;
  seen : StaysSeen l.fn.seen l.seen;
  start : seen_at l.seen l.start ≢ New;
}

abbrev pub decreases-loop-at : goal.decreases-loop-at
decreases-loop-at l = length l.path.items
