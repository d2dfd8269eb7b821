pub mod Answering
use Rattle.version_index.proofs.Common.{count_by, is_number}
use Rattle.version_index.proofs.committing.resolve_waiting.Invariants.Answering.{IsAnswering}
use Rattle.version_index.proofs.committing.resolve_waiting.Given as goal

abbrev pub invariant-loop-number : goal.invariant-loop-number
invariant-loop-number l = IsAnswering l.initial.tables l.tables l.page l.newest

abbrev pub decreases-loop-number : goal.decreases-loop-number
decreases-loop-number l = count_by (is_number l.page) l.tables.waits
