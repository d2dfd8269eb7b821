use Rattle.std.proofs.Common.{◌≡◌, ◌≤◌, ◌-◌, length, drop}
use Rattle.lane_scan.specs.Scans.{all_equal}
use Rattle.lane_scan.proofs.scans.all_equal.Given as goal

-- what is left are the last bytes
abbrev pub invariant-loop-rest : goal.invariant-loop-rest
invariant-loop-rest l =
    (all_equal l.rest l.value ≡ all_equal l.bytes l.value)
    × (length l.rest ≤ length l.bytes) × (l.rest ≡ drop (length l.bytes - length l.rest) l.bytes)

abbrev pub decreases-loop-rest : goal.decreases-loop-rest
decreases-loop-rest l = length l.rest
