use Rattle.page_keys.proofs.Common.{◌≡◌, ◌≤◌, take, count_by, changes_of, puts_value}
use Rattle.page_keys.proofs.grouping.count_values.Given as goal

abbrev pub invariant-loop-placed : goal.invariant-loop-placed
invariant-loop-placed l = record {
  counts : l.count ≡ count_by puts_value (changes_of (take l.placed-index l.changes));
  most : l.count ≤ l.placed-index;
}
