-- The page begins before it ends, and what is elsewhere does not count.
use Rattle.sorted_records.proofs.Common.{◌≤◌, rules}
use Rattle.sorted_records.proofs.OfGroup.Groups.{group_goes_up, group_greatest}
use Rattle.sorted_records.proofs.group.group.Goals as goal

pub slice_bounds-result-count : goal.slice_bounds-result-count
slice_bounds-result-count c =
    group_goes_up c.args.records.now c.args.page c.pages_below-from.result c.pages_up_to-to.result
    c.pages_below-from.ensures.first
    c.pages_up_to-to.ensures.first c.pages_below-from.ensures.within c.pages_up_to-to.ensures.within

pub slice_bounds-result-start : goal.slice_bounds-result-start
slice_bounds-result-start c =
    let up : c.pages_below-from.result ≤ c.pages_up_to-to.result =
    group_goes_up c.args.records.now c.args.page c.pages_below-from.result c.pages_up_to-to.result
    c.pages_below-from.ensures.first
    c.pages_up_to-to.ensures.first c.pages_below-from.ensures.within c.pages_up_to-to.ensures.within in
    search rules

pub returns : goal.returns
returns c =
    group_greatest c.args.records.now c.args.page c.pages_below-from.result c.pages_up_to-to.result
    c.pages_below-from.ensures.first
    c.pages_up_to-to.ensures.first c.pages_below-from.ensures.within c.pages_up_to-to.ensures.within
