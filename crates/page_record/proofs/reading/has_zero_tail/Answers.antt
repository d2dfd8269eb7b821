use Rattle.std.proofs.Common.{rules}
use Rattle.page_record.proofs.Zeros.{zero_tail}
use Rattle.page_record.proofs.reading.has_zero_tail.Goals as goal
use Rattle.page_record.proofs.reading.has_zero_tail.Goals.{then-first-eq0, else-first-eq0}

pub returns-then-second-eq0 : goal.returns-then-second-eq0
returns-then-second-eq0 c =
    let all = zero_tail c.args.spare_area.now c.told-spare_area (record { at = c.fits-spare_area }) in
    elim c.if-first-eq0.branch [ then-first-eq0 w ↦ search (rules, all) | else-first-eq0 w ↦ search (rules, all) ]

pub returns-else-second-eq0 : goal.returns-else-second-eq0
returns-else-second-eq0 c =
    let all = zero_tail c.args.spare_area.now c.told-spare_area (record { at = c.fits-spare_area }) in
    elim c.if-first-eq0.branch [ then-first-eq0 w ↦ search (rules, all) | else-first-eq0 w ↦ search (rules, all) ]
