use Rattle.scan_recovery.proofs.Common.{inl, inr, sym, ◌∙◌, arith}
use Rattle.scan_recovery.proofs.OfOpening.Used.{count_used_is}
use Rattle.scan_recovery.proofs.opening.count_used.Goals as goal
use Rattle.scan_recovery.proofs.opening.count_used.Goals.{then-loop-used-test+else-is_blank, else-loop-used-test}

pub returns-clause-used : goal.returns-clause-used
returns-clause-used c =
    sym (count_used_is c.args.slots.now c.loop-used.used c.loop-used.invariant.within c.loop-used.invariant.behind
    (elim c.loop-used-test.branch [
      | then-loop-used-test+else-is_blank w ↦ inr (sym w.is_blank.ensures ∙ w.if-is_blank.false)
      | else-loop-used-test w ↦ inl (omega arith)
    ]))
