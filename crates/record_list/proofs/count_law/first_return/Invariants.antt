use Rattle.record_list.proofs.Common.{◌≡◌, ◌≢◌, ℕ, ◌≤◌, follow}
use Rattle.record_list.proofs.count_law.first_return.Given as goal

abbrev pub invariant-loop-links : goal.invariant-loop-links
invariant-loop-links l =
    (l.at ≡ follow l.list l.name l.links)
    × ((m : ℕ) → 1 ≤ m → m ≤ l.links → follow l.list l.name m ≢ l.name)
