use Rattle.tx_engine.proofs.Common.{◌≡◌, ◌≤◌, vec_capacity, found_in}
use Rattle.std.proofs.Common.{take, vec_len}
use Rattle.tx_engine.proofs.store.Store.noted_records.Given as goal

-- the records of the slots so far, with room for those of the others
abbrev pub invariant-loop-at : goal.invariant-loop-at
invariant-loop-at g l = record {
  items : l.list.items ≡ found_in (take l.at l.self.noted.notes);
  len : vec_len l.list ≤ l.at;
  room : vec_capacity l.list ≡ l.slots;
}
