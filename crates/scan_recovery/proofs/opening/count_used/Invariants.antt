use Rattle.scan_recovery.proofs.Common.{◌≡◌, ℕ, ◌<◌, ◌≤◌, true, length, get_or, Blank, reads_blank}
use Rattle.scan_recovery.proofs.opening.count_used.Given as goal

abbrev pub decreases-loop-used : goal.decreases-loop-used
decreases-loop-used l = l.used

-- all slots behind are blank
abbrev pub invariant-loop-used : goal.invariant-loop-used
invariant-loop-used l = record {
  within : l.used ≤ length l.slots;
  behind : (k : ℕ) → l.used ≤ k → k < length l.slots → reads_blank (get_or l.slots k Blank) ≡ true;
}
