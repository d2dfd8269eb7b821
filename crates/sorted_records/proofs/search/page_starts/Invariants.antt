use Rattle.sorted_records.proofs.Common.{◌≤◌}
use Rattle.std.specs.Vec.{vec_capacity}
use Rattle.sorted_records.specs.Names.{AreNames}
use Rattle.sorted_records.specs.Starts.{HaveStarts}
use Rattle.sorted_records.proofs.search.page_starts.Given as goal

abbrev pub invariant-loop-at : goal.invariant-loop-at
invariant-loop-at l = record {
  starts : HaveStarts l.records l.size l.at l.starts.items;
  names : AreNames l.records l.at l.names;
  room : l.size ≤ vec_capacity l.starts;
}
