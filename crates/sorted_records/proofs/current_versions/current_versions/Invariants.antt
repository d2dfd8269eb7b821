use Rattle.sorted_records.proofs.Common.{◌≡◌, ◌≤◌, map, cur}
use Rattle.std.specs.List.{range_with_len}
use Rattle.std.specs.Vec.{vec_capacity}
use Rattle.sorted_records.proofs.current_versions.current_versions.Given as goal

abbrev pub invariant-loop-page : goal.invariant-loop-page
invariant-loop-page l = record {
  versions : l.versions.items ≡ map (cur l.protocol l.chart l.logical) (range_with_len 0 l.page);
  room : l.logical ≤ vec_capacity l.versions;
}
