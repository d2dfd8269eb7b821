-- The names of earlier pages are below one, and those of later pages are not.
use Rattle.sorted_records.proofs.Common.{◌≤◌, rules}
use Rattle.sorted_records.proofs.OfGroup.Groups.{group_goes_up, earlier_below, later_not_below}
use Rattle.sorted_records.proofs.OfGroup.Narrowed.{part_in_order, point_is}
use Rattle.sorted_records.proofs.search.names_below.Goals as goal

pub count_below-requires : goal.count_below-requires
count_below-requires c = part_in_order c.args.records.now c.pages_below-from.result c.pages_up_to-to.result
    c.requires.order c.pages_up_to-to.ensures.within

pub slice_bounds-count_below-count : goal.slice_bounds-count_below-count
slice_bounds-count_below-count c =
    let from = c.pages_below-from in
    let to = c.pages_up_to-to in
    group_goes_up c.args.records.now c.args.name.page from.result to.result from.ensures.first to.ensures.first
    from.ensures.within to.ensures.within

pub slice_bounds-count_below-start : goal.slice_bounds-count_below-start
slice_bounds-count_below-start c =
    let from = c.pages_below-from in
    let to = c.pages_up_to-to in
    let up : c.pages_below-from.result ≤ c.pages_up_to-to.result =
    group_goes_up c.args.records.now c.args.name.page from.result to.result from.ensures.first to.ensures.first
    from.ensures.within to.ensures.within in
    search rules

pub returns-clause-first : goal.returns-clause-first
returns-clause-first c =
    let l = c.args.records.now in
    let name = c.args.name in
    let from = c.pages_below-from in
    let to = c.pages_up_to-to in
    let up = group_goes_up l name.page from.result to.result from.ensures.first to.ensures.first from.ensures.within
    to.ensures.within in
    point_is l name from.result to.result c.count_below.result up to.ensures.within
    (earlier_below l name from.result to.result from.ensures.first to.ensures.first from.ensures.within
    to.ensures.within)
    (later_not_below l name from.result to.result from.ensures.first to.ensures.first from.ensures.within
    to.ensures.within)
    c.count_below.ensures.within c.count_below.ensures.first
