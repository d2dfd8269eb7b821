-- The records so far ascend to slots below `low`.
use Rattle.std.proofs.Common.{ℕ, ◌<◌, ◌≤◌, get_or}
use Rattle.record_list.specs.declared.found.Found.{Found}
use Rattle.device_tests.proofs.building.is_scanned.Given as goal

abbrev pub invariant-loop-found : goal.invariant-loop-found
invariant-loop-found l =
    ((k : ℕ) (d : Found) → k < l.found-index → (get_or l.list k d).slot.0 < l.low)
    × ((k : ℕ) (d : Found) → k < l.found-index → (1 ≤ (get_or l.list k d).rec.version)
    × (1 ≤ (get_or l.list k d).rec.next.version))
    × ((i j : ℕ) (d : Found) → i < j → j < l.found-index → (get_or l.list i d).slot.0 < (get_or l.list j d).slot.0)
