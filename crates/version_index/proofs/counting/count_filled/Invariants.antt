use Rattle.version_index.proofs.Common.{◌≡◌, ◌≤◌, take, count_by}
use Rattle.version_index.specs.Written.{fills}
use Rattle.version_index.proofs.counting.count_filled.Given as goal

abbrev pub invariant-loop-page : goal.invariant-loop-page
invariant-loop-page l = record {
  counted : l.count ≡ count_by (fills l.tables.records) (take l.page l.tables.current);
  few : l.count ≤ l.page;
}
