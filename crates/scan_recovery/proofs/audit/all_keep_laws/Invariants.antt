use Rattle.scan_recovery.proofs.Common.{◌≡◌, ℕ, ◌<◌, length, get_or, Found}
use Rattle.scan_recovery.specs.Searches.{KeepsLaws, HasCountKept, AreTargetsMarked, AreLinkedOnce, AreAbsentTo}
use Rattle.scan_recovery.proofs.audit.all_keep_laws.Given as goal

abbrev pub invariant-loop-at : goal.invariant-loop-at
invariant-loop-at l = record {
  laws : (k : ℕ) (d : Found) → k < l.at → KeepsLaws l.standing (get_or l.standing.list k d);
  counts : (k : ℕ) (d : Found) → k < l.at → HasCountKept l.orbits l.standing.list (get_or l.standing.list k d);
  size : length l.linked.items ≡ length l.standing.list;
  marked : AreTargetsMarked l.standing.list l.linked.items l.at;
  once : AreLinkedOnce l.standing.list l.at;
  absent : AreAbsentTo l.standing.list l.at l.absent;
}
