use Rattle.page_keys.proofs.Common.{◌≡◌, ◌+◌, ◌≤◌, length, map, ◌++◌, Some, change_of}
use Rattle.host_protocol.specs.Lines.{words_of}
use Rattle.page_keys.proofs.key_words.changes.Given as goal

abbrev pub invariant-loop-word : goal.invariant-loop-word
invariant-loop-word l = record {
  read : map change_of (words_of l.words) ≡ map Some l.all ++ map change_of (words_of l.rest);
  few : length l.all + length l.rest ≤ length l.words;
}

abbrev pub decreases-loop-word : goal.decreases-loop-word
decreases-loop-word l = length l.rest
