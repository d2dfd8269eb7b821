use Rattle.verdict_report.proofs.Common.{◌≡◌, ◌+◌, ◌≤◌, ◌++◌, length, map, link_word, after_spaces}
use Rattle.std.proofs.Common.{◌*◌, drop}
use Rattle.verdict_report.proofs.line.put_links.Given as goal

-- the links from this one on are put
abbrev pub invariant-loop-left : goal.invariant-loop-left
invariant-loop-left l = record {
  few : l.left ≤ length l.links;
  within : (l.start ≤ l.end) × (l.end + 42 * l.left ≤ l.start + 42 * length l.links);
  put : drop l.start l.room ≡ after_spaces (map link_word (drop l.left l.links)) ++ drop l.end l.initial.room;
}

abbrev pub decreases-loop-left : goal.decreases-loop-left
decreases-loop-left l = l.left
