use Rattle.sorted_records.proofs.Common.{◌≤◌, length}
use Rattle.std.specs.Vec.{vec_len, vec_capacity}
use Rattle.sorted_records.specs.Seen.{AreLone}
use Rattle.sorted_records.proofs.orbits.lone_nodes.Given as goal

abbrev pub invariant-loop-node : goal.invariant-loop-node
invariant-loop-node l = record {
  lone : AreLone l.graph l.node l.lone.seen.items l.lone.others.items;
  seen_room : length l.graph ≤ vec_capacity l.lone.seen;
  others_room : length l.graph ≤ vec_capacity l.lone.others;
  few : vec_len l.lone.others ≤ l.node;
}
