use Rattle.scan_recovery.proofs.Common.{position, length-map, has_name}
use Rattle.scan_recovery.proofs.own_links.is_linked_once.Goals as goal

pub links_there-requires-clause-targets : goal.links_there-requires-clause-targets
links_there-requires-clause-targets c =
    let list = c.args.chart.now in
    rw (c.targets-in-Some.ensures.targets, c.records.ensures.records)
    (length-map list (λ f. position (λ g. has_name f.rec.next g.rec) list))
