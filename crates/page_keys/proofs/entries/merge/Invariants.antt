use Rattle.page_keys.proofs.Common.{◌≡◌, IsTrue, take, changes_of, is_ascending, changed}
use Rattle.page_keys.proofs.entries.merge.Given as goal

abbrev pub invariant-loop-placed : goal.invariant-loop-placed
invariant-loop-placed l = record {
  made : l.entries.items
      ≡ changed l.initial.entries.items (changes_of (take l.placed-index l.changes));
  ascend : IsTrue (is_ascending l.entries.items);
}
