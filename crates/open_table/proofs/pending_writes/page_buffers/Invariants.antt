use Rattle.open_table.proofs.Common.{◌≡◌, ◌≤◌, length, All, vec_capacity}
use Rattle.open_table.proofs.pending_writes.page_buffers.Given as goal

abbrev pub invariant-loop : goal.invariant-loop
invariant-loop l = record {
  count : length l.rooms.items ≡ l.counter;
  capacity : l.end ≤ vec_capacity l.rooms;
  sizes : All (λ r. length r.items ≡ l.config.page_bytes) l.rooms.items;
}
