use Rattle.sorted_records.proofs.Common.{ℕ, ◌<◌, nothing, KeepsCount}
use Rattle.std.proofs.Common.{slice_index_or}
use Rattle.sorted_records.proofs.count_law.all_keep_count.Given as goal

abbrev pub invariant-loop-at : goal.invariant-loop-at
invariant-loop-at l = (k : ℕ) → k < l.at → KeepsCount l.chart (slice_index_or l.chart k nothing)
