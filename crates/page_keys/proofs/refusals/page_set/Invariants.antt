use Rattle.page_keys.proofs.Common.{◌≡◌, take, pages_of}
use Rattle.page_keys.proofs.refusals.page_set.Given as goal

abbrev pub invariant-loop-change : goal.invariant-loop-change
invariant-loop-change l = l.pages.keys ≡ pages_of l.logical (take l.change-index l.changes)
