use Rattle.sorted_records.proofs.Common.{◌≡◌, ◌<◌, ◌-◌, length, New, seen_at, IsFollowed, ComesAfterPath, StaysSeen}
use Rattle.sorted_records.specs.Seen.{IsStarted}
use Rattle.sorted_records.proofs.follow.follow.Given as goal

abbrev pub invariant-loop-next : goal.invariant-loop-next
invariant-loop-next l = record {
  followed : IsFollowed l.graph l.seen l.path.items;
  within : l.at < length l.graph;
  new : seen_at l.seen l.at ≡ New;
  comes : ComesAfterPath l.graph l.path.items l.at;
  seen : StaysSeen l.fn.seen l.seen;
  started : IsStarted l.seen l.start l.at;
}

abbrev pub decreases-loop-next : goal.decreases-loop-next
decreases-loop-next l = length l.graph - length l.path.items
