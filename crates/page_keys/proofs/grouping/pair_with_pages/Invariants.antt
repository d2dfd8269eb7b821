use Rattle.page_keys.proofs.Common.{◌≡◌, ℕ, take, changes_of, of_page}
use Rattle.page_keys.specs.Groups.{at_page}
use Rattle.page_keys.proofs.grouping.pair_with_pages.Given as goal

abbrev pub invariant-loop-change : goal.invariant-loop-change
invariant-loop-change l =
    (page : ℕ) →
    changes_of (at_page page l.placed.items) ≡ of_page l.logical page (take l.change-index l.changes)
