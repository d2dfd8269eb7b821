use Rattle.sorted_records.proofs.Common.{◌≤◌, get_or, ◌∙◌, rules}
use Rattle.std.proofs.lemmas.Option.{slice_get-get_or}
use Rattle.sorted_records.proofs.OfGroup.StraddlerGroups.{stretch_rises, decided, bound_up, upto_is_last}
use Rattle.sorted_records.proofs.group.straddling_by_bounds.Goals as goal

pub slice_bounds-count_below_near-count : goal.slice_bounds-count_below_near-count
slice_bounds-count_below_near-count c =
    let tops = c.args.tops.now in
    let name = c.args.name in
    let from = c.pages_below-from in
    let end = c.names_up_to-end in
    bound_up c.args.records.now tops c.args.least.now name (get_or tops name.page 0) from.result end.result
    c.requires.order c.requires.minima
    (slice_get-get_or tops name.page 0 c.requires.bound) from.ensures.first end.ensures.first from.ensures.within
    end.ensures.within

pub slice_bounds-count_below_near-start : goal.slice_bounds-count_below_near-start
slice_bounds-count_below_near-start c =
    let tops = c.args.tops.now in
    let name = c.args.name in
    let from = c.pages_below-from in
    let end = c.names_up_to-end in
    let up : c.pages_below-from.result ≤ c.names_up_to-end.result =
    bound_up c.args.records.now tops c.args.least.now name (get_or tops name.page 0) from.result end.result
    c.requires.order c.requires.minima
    (slice_get-get_or tops name.page 0 c.requires.bound) from.ensures.first end.ensures.first from.ensures.within
    end.ensures.within in
    let size = c.requires.minima.size in
    search rules

pub count_below_near-count-requires : goal.count_below_near-count-requires
count_below_near-count-requires c =
    let l = c.args.records.now in
    let tops = c.args.tops.now in
    let name = c.args.name in
    let from = c.pages_below-from in
    let end = c.names_up_to-end in
    stretch_rises l tops c.args.least.now name from.result end.result c.requires.order c.requires.minima
    (decided l tops c.args.least.now name (get_or tops name.page 0) from.result end.result c.requires.order
    c.requires.minima
    (slice_get-get_or tops name.page 0 c.requires.bound) from.ensures.first end.ensures.first from.ensures.within
    end.ensures.within)

pub returns : goal.returns
returns c =
    let l = c.args.records.now in
    let tops = c.args.tops.now in
    let name = c.args.name in
    let from = c.pages_below-from in
    let end = c.names_up_to-end in
    c.last_above.ensures
    ∙ upto_is_last l tops c.args.least.now name (get_or tops name.page 0) from.result end.result c.requires.order
    c.requires.minima
    (slice_get-get_or tops name.page 0 c.requires.bound) from.ensures.first end.ensures.first from.ensures.within
    end.ensures.within
    c.count_below_near-count.result c.count_below_near-count.ensures.within c.count_below_near-count.ensures.first
