use Rattle.scan_recovery.proofs.Common.{refl}
use Rattle.record_list.proofs.OfChanges.Counting.{none_counted}
use Rattle.scan_recovery.proofs.OfLaws.CountsAlike.{none_miscounted}
use Rattle.scan_recovery.proofs.opening.miscount.Goals as goal

pub returns-then-kept : goal.returns-then-kept
returns-then-kept c =
    let s = c.args.standing.now in
    none_miscounted c.args.list.now s.list c.requires.sorts c.requires.copies c.requires.scanned c.args.orbits.now
    (c.requires.kept c.if-kept.true).counts

pub returns-in-None : goal.returns-in-None
returns-in-None c = none_counted c.args.list.now (c.requires.counted (rw c.in-None.is refl))
