use Rattle.scan_recovery.proofs.Common.{◌≡◌, sym, arith}
use Rattle.die_alloc.specs.Opening.{used_in}
use Rattle.scan_recovery.proofs.OfOpening.Used.{use_none, use_some}
use Rattle.scan_recovery.proofs.opening.block_use.Goals as goal

pub returns-then-used-eq0 : goal.returns-then-used-eq0
returns-then-used-eq0 c =
    let none : used_in c.args.slots.now ≡ 0 = omega (arith, c.count_used-used.ensures.used, c.if-used-eq0.true) in
    rw c.if-is_spare.false (sym (use_none c.args.slots.now none))

pub returns-else-used-eq0 : goal.returns-else-used-eq0
returns-else-used-eq0 c =
    rw c.if-is_spare.false (sym (use_some c.args.slots.now c.count_used-used.result c.count_used-used.ensures.used
    c.if-used-eq0.false))
