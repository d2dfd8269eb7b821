use Rattle.sorted_records.proofs.Common.{◌≤◌, length, AreMinimaFrom}
use Rattle.sorted_records.proofs.minima.minima.Given as goal

abbrev pub decreases-loop-at : goal.decreases-loop-at
decreases-loop-at l = l.at

abbrev pub invariant-loop-at : goal.invariant-loop-at
invariant-loop-at l = record {
  within : l.at ≤ length l.records;
  minima : AreMinimaFrom l.records l.tops l.at l.least.items;
}
