use Rattle.std.proofs.Common.{◌++◌, ap, append_assoc, sym, ◌∙◌}
use Rattle.unit_tests.proofs.dense_tables_tests.listed.Goals as goal

pub loop-at-preserved : goal.loop-at-preserved
loop-at-preserved c =
    let before = rw c.in-Some.is at c.loop-at.invariant in
    let order = c.next-at.ensures.order c.args.key before.1 in (
      rw (c.in_ok-push.ensures.items, append_assoc) (ap (λ rest. c.loop-at.list.items ++ rest) (sym order) ∙ before.0),
      c.next-at.ensures.listed c.args.key before.1,
    )
