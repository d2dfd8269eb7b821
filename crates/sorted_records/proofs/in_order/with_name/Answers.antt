use Rattle.sorted_records.proofs.Common.{◌≤◌, sym, rules}
use Rattle.sorted_records.proofs.OfSort.Order.{named_up, named_range}
use Rattle.sorted_records.proofs.in_order.with_name.Goals as goal

pub slice_bounds-result-count : goal.slice_bounds-result-count
slice_bounds-result-count c =
    named_up c.args.records.now c.args.name c.names_below-from.result c.names_up_to-to.result c.requires.order
    c.names_up_to-to.ensures.within
    c.names_below-from.ensures.within c.names_below-from.ensures.first c.names_up_to-to.ensures.first

pub slice_bounds-result-start : goal.slice_bounds-result-start
slice_bounds-result-start c =
    let up : c.names_below-from.result ≤ c.names_up_to-to.result =
    named_up c.args.records.now c.args.name c.names_below-from.result c.names_up_to-to.result c.requires.order
    c.names_up_to-to.ensures.within
    c.names_below-from.ensures.within c.names_below-from.ensures.first c.names_up_to-to.ensures.first in
    search rules

pub returns : goal.returns
returns c =
    sym (named_range c.args.records.now c.args.name c.names_below-from.result c.names_up_to-to.result c.requires.order
    c.names_up_to-to.ensures.within
    c.names_below-from.ensures.within c.names_below-from.ensures.first c.names_up_to-to.ensures.first)
