use Rattle.std.proofs.Common.{rules}
use Rattle.scan_recovery.proofs.OfLinks.SharedLinks.{finds_lowest}
use Rattle.scan_recovery.proofs.shared_links.lowest_shared_link.Goals as goal

pub returns : goal.returns
returns c =
    let copied = c.in_ok-by_link.ensures.items_if_clones_equal (search rules) in
    finds_lowest c.args.list.now c.deref.result.now c.requires
    (rw c.deref.ensures.value (rw copied at c.in_ok-sort_by_link.ensures)) c.lowest_sharer.result
    c.lowest_sharer.ensures
