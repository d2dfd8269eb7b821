use Rattle.page_keys.proofs.Common.{◌≡◌, ◌++◌, take, drop, with_page}
use Rattle.page_keys.proofs.refusals.add_page.Given as goal

abbrev pub invariant-loop-i : goal.invariant-loop-i
invariant-loop-i l = record {
  same : l.pages.items ≡ l.initial.pages.items;
  from : with_page l.page l.pages.items ≡ take l.i l.pages.items ++ with_page l.page (drop l.i l.pages.items);
}
