use Rattle.sorted_records.proofs.Common.{◌≤◌, ◌∙◌, [], rules}
use Rattle.sorted_records.proofs.OfGroup.Groups.{group_goes_up}
use Rattle.sorted_records.proofs.OfGroup.StraddlerGroups.{stretch_rises, whole, straddling_is_last}
use Rattle.sorted_records.proofs.group.straddling_by_minima.Goals as goal

pub slice_bounds-count_below_near-count : goal.slice_bounds-count_below_near-count
slice_bounds-count_below_near-count c =
    group_goes_up c.args.records.now c.args.name.page c.pages_below-from.result c.pages_up_to-end.result
    c.pages_below-from.ensures.first
    c.pages_up_to-end.ensures.first c.pages_below-from.ensures.within c.pages_up_to-end.ensures.within

pub slice_bounds-count_below_near-start : goal.slice_bounds-count_below_near-start
slice_bounds-count_below_near-start c =
    let up : c.pages_below-from.result ≤ c.pages_up_to-end.result =
    group_goes_up c.args.records.now c.args.name.page c.pages_below-from.result c.pages_up_to-end.result
    c.pages_below-from.ensures.first
    c.pages_up_to-end.ensures.first c.pages_below-from.ensures.within c.pages_up_to-end.ensures.within in
    let size = c.requires.minima.size in
    search rules

pub count_below_near-count-requires : goal.count_below_near-count-requires
count_below_near-count-requires c =
    let l = c.args.records.now in
    let from = c.pages_below-from in
    let end = c.pages_up_to-end in
    let up = group_goes_up l c.args.name.page from.result end.result from.ensures.first end.ensures.first
    from.ensures.within end.ensures.within in
    stretch_rises l [] c.args.least.now c.args.name from.result end.result c.requires.order c.requires.minima
    (whole l c.args.least.now c.args.name from.result end.result c.requires.order c.requires.minima from.ensures.first
    end.ensures.first
    from.ensures.within end.ensures.within up)

pub returns : goal.returns
returns c =
    let l = c.args.records.now in
    let from = c.pages_below-from in
    let end = c.pages_up_to-end in
    let up = group_goes_up l c.args.name.page from.result end.result from.ensures.first end.ensures.first
    from.ensures.within end.ensures.within in
    c.last_above.ensures
    ∙ straddling_is_last l c.args.least.now c.args.name from.result end.result c.requires.order c.requires.minima
    from.ensures.first end.ensures.first
    from.ensures.within end.ensures.within up c.count_below_near-count.result c.count_below_near-count.ensures.within
    c.count_below_near-count.ensures.first
