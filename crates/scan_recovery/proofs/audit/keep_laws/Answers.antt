-- The links that lead to one place are those of one name, and so are those that lead to none.
use Rattle.scan_recovery.proofs.OfLinks.OwnLinks.{own_links}
use Rattle.scan_recovery.proofs.audit.keep_laws.Goals as goal

pub returns-then-absent : goal.returns-then-absent
returns-then-absent c _kept =
    let kept = c.all_keep_laws.ensures in
    let all = c.if-not-all_keep_laws.false in
    record {
      laws = kept.laws all;
      counts = kept.counts all;
      links = own_links c.args.standing.now.list (kept.links all) ((kept.absent all).once c.if-absent.true);
    }

pub returns : goal.returns
returns c once =
    let kept = c.all_keep_laws.ensures in
    let all = c.if-not-all_keep_laws.false in
    record {
      laws = kept.laws all;
      counts = kept.counts all;
      links = own_links c.args.standing.now.list (kept.links all)
          (rw c.sorted_records-chart.ensures at (c.in_ok-once.ensures once));
    }
