-- A page that is not below the end has no record.
use Rattle.sorted_records.proofs.Common.{sym, arith}
use Rattle.sorted_records.proofs.OfGroup.BarePages.{bare_current}
use Rattle.sorted_records.proofs.current_versions.current_below.Goals as goal

pub returns-then-page-end : goal.returns-then-page-end
returns-then-page-end c =
    sym (bare_current c.args.chart.now c.args.page (λ k low same. let below = c.requires k low in
    let high = c.if-page-end.true in omega arith) c.args.protocol c.args.logical)
