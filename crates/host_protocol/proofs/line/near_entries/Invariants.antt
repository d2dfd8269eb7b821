use Rattle.host_protocol.proofs.Common.{◌≤◌}
use Rattle.host_protocol.proofs.line.near_entries.Given as goal

abbrev pub invariant-loop-byte : goal.invariant-loop-byte
invariant-loop-byte l = l.count ≤ l.byte-index
