use Rattle.std.proofs.Common.{◌≡◌, length, nat_eq, drop, ◌+◌}
use Rattle.std.specs.List.{common_prefix_len}
use Rattle.lane_scan.proofs.scans.count_same_by_one.Given as goal

abbrev pub invariant-loop-x : goal.invariant-loop-x
invariant-loop-x l = (l.same ≡ length l.yielded)
    × (l.same + common_prefix_len nat_eq (drop l.same l.a) (drop l.same l.b) ≡ common_prefix_len nat_eq l.a l.b)
