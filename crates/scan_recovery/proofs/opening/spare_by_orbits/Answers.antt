use Rattle.sorted_records.proofs.OfCount.CountLaw.{namesakes}
use Rattle.scan_recovery.proofs.opening.spare_by_orbits.Goals as goal

pub keep_laws-requires-clause-namesakes : goal.keep_laws-requires-clause-namesakes
keep_laws-requires-clause-namesakes c = namesakes c.args.list.now c.args.standing.now.list c.requires.sorts
    c.requires.copies c.requires.scanned
