use Rattle.scan_recovery.proofs.Common.{false, sym}
use Rattle.scan_recovery.proofs.OfSpare.HeldPlaces.{held_at, found_by_name}
use Rattle.scan_recovery.proofs.held.is_held.Goals as goal

pub returns-in-Some : goal.returns-in-Some
returns-in-Some c =
    held_at c.args.standing.now c.args.held.now c.args.at c.in-Some.place false c.requires.copies c.requires.held
    c.requires.within
    (rw (c.name.ensures, c.records.ensures.records, c.sorted_records-chart.ensures) at c.in-Some.ensures)

pub returns-in-None : goal.returns-in-None
returns-in-None c =
    absurd (found_by_name c.args.standing.now.list c.args.at c.requires.within
    (sym (rw (c.name.ensures, c.records.ensures.records, c.sorted_records-chart.ensures) at c.in-None.ensures)))
