use Rattle.sorted_records.proofs.Common.{◌≡◌, drop}
use Rattle.sorted_records.specs.Seen.{noted}
use Rattle.sorted_records.proofs.follow.note.Given as goal

abbrev pub invariant-loop-node : goal.invariant-loop-node
invariant-loop-node l = noted l.orbit (drop l.node-index l.nodes) l.seen ≡ noted l.orbit l.nodes l.fn.seen
