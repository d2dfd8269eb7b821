use Rattle.page_keys.proofs.Common.{◌≡◌, length, filter, range_with_len, is_touched}
use Rattle.page_keys.proofs.refusals.count_pages.Given as goal

abbrev pub invariant-loop-page : goal.invariant-loop-page
invariant-loop-page l =
    l.count ≡ length (filter (is_touched l.logical l.changes) (range_with_len 0 l.page))
