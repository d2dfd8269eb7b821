use Rattle.std.proofs.Common.{rules}
use Rattle.page_record.proofs.Zeros.{zero_count}
use Rattle.page_record.proofs.reading.has_zero_tail_and_count.Goals as goal

pub returns-then-count-eq0 : goal.returns-then-count-eq0
returns-then-count-eq0 c =
    let all = zero_count c.args.spare_area.now c.told-spare_area (record { at = c.fits-spare_area }) in
    search (rules, all)

pub returns-else-count-eq0 : goal.returns-else-count-eq0
returns-else-count-eq0 c =
    let all = zero_count c.args.spare_area.now c.told-spare_area (record { at = c.fits-spare_area }) in
    search (rules, all)
