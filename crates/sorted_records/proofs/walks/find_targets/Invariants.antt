use Rattle.sorted_records.proofs.Common.{◌≡◌, ◌≤◌, length, map, position, take, has_name}
use Rattle.std.specs.Vec.{vec_len, vec_capacity}
use Rattle.sorted_records.specs.Seen.{AreLone}
use Rattle.sorted_records.proofs.walks.find_targets.Given as goal

abbrev pub invariant-loop-at : goal.invariant-loop-at
invariant-loop-at l = record {
  targets : l.targets.items ≡ map (λ f. position (λ g. has_name f.rec.next g.rec) l.records) (take l.at l.records);
  count : length l.targets.items ≡ l.at;
  lone : AreLone l.targets.items l.at l.lone.seen.items l.lone.others.items;
  few : vec_len l.lone.others ≤ l.at;
  targets_room : length l.records ≤ vec_capacity l.targets;
  seen_room : length l.records ≤ vec_capacity l.lone.seen;
  others_room : length l.records ≤ vec_capacity l.lone.others;
}
