use Rattle.scan_recovery.proofs.OfLinks.OwnLinks.{absent_own}
use Rattle.scan_recovery.proofs.own_links.are_absent_once.Goals as goal

pub returns-in-None : goal.returns-in-None
returns-in-None c _once =
    absent_own c.args.chart.now c.in_ok-absent.absent.items c.deref.result.now c.in_ok-absent.ensures
    (rw c.deref.ensures.value c.in_ok-sort_by_link.ensures) (rw c.in-None.is at c.lowest_sharer.ensures)
