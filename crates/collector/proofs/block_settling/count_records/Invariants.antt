use Rattle.collector.proofs.Common.{◌≡◌, ◌-◌, ◌≤◌, count_by, range_with_len, note_at, holds_record}
use Rattle.collector.proofs.block_settling.count_records.Given as goal

-- the records so far are counted
abbrev pub invariant-loop-at : goal.invariant-loop-at
invariant-loop-at g l = record {
  counted : l.count ≡ count_by (λ slot. holds_record (note_at l.index.notes slot))
      (range_with_len l.first (l.at - l.first));
  bound : l.count ≤ l.at - l.first;
}
