use Rattle.host_protocol.proofs.Common.{◌≡◌, ◌≤◌, length, map, ◌++◌, Some, page_write_of, words_of}
use Rattle.host_protocol.proofs.line.add_entries.Given as goal

abbrev pub invariant-loop-page : goal.invariant-loop-page
invariant-loop-page l = record {
  size : l.batch.page_bytes ≡ l.page_bytes;
  read : map (page_write_of l.page_bytes) (words_of l.words) ≡ map Some l.batch.entries
      ++ map (page_write_of l.page_bytes) (words_of l.rest);
  most : length l.batch.entries ≤ l.entries_left;
}

abbrev pub decreases-loop-page : goal.decreases-loop-page
decreases-loop-page l = length l.rest
