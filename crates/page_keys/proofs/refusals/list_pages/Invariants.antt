use Rattle.page_keys.proofs.Common.{◌≡◌, ◌++◌}
use Rattle.page_keys.proofs.refusals.list_pages.Given as goal

abbrev pub invariant-loop-page : goal.invariant-loop-page
invariant-loop-page l = l.list.items ++ l.page-iterator ≡ l.pages.keys
