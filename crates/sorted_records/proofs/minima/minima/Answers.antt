mod MinimaSteps
use Rattle.sorted_records.proofs.Common.{◌≡◌, ◌+◌, ◌-◌, length, subst, arith, AreMinimaFrom}
use Rattle.sorted_records.proofs.minima.minima.Answers.MinimaSteps.{minima_none, minima_more}
use Rattle.sorted_records.proofs.minima.minima.Goals as goal

pub loop-at-init : goal.loop-at-init
loop-at-init c = record {
  within = omega arith;
  minima = minima_none c.args.records.now c.args.tops.now c.in_ok-least.least.items
      (length c.args.records.now) (omega arith)
      (omega (arith, c.in_ok-least.ensures.len));
}

pub loop-at-preserved : goal.loop-at-preserved
loop-at-preserved c =
    let before = c.loop-at.invariant in
    let low = before.within in
    let at = c.loop-at.at - 1 in
    let next : c.loop-at.at ≡ at + 1 = omega arith in
    record {
      within = omega arith;
      minima = rw (c.set.ensures, c.least_from-back.ensures, c.deref.ensures.value)
          (minima_more c.args.records.now c.args.tops.now c.loop-at.least.items at c.requires (omega arith)
          (subst (λ n. AreMinimaFrom c.args.records.now c.args.tops.now n c.loop-at.least.items) next before.minima));
    }
