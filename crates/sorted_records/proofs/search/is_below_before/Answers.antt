use Rattle.sorted_records.proofs.Common.{◌-◌, sym, ◌∙◌, arith}
use Rattle.sorted_records.proofs.OfGroup.Narrowed.{before_below}
use Rattle.sorted_records.proofs.search.is_below_before.Goals as goal

pub returns-else-at-eq0 : goal.returns-else-at-eq0
returns-else-at-eq0 c =
    let some = c.if-at-eq0.false in
    let within = c.requires.within in
    λ here k less. before_below c.args.records.now c.args.name (c.args.at - 1) c.requires.order (omega arith)
    (sym c.is_below.ensures ∙ here) k (omega arith)
