use Rattle.open_table.proofs.Common.{◌≡◌, ◌≤◌, [], length, All, vec_capacity}
use Rattle.open_table.proofs.pending_writes.page_lists.Given as goal

abbrev pub invariant-loop : goal.invariant-loop
invariant-loop l = record {
  count : length l.lists.items ≡ l.counter;
  capacity : l.end ≤ vec_capacity l.lists;
  empty : All (λ r. (r.items ≡ []) × (l.most ≤ vec_capacity r)) l.lists.items;
}
