use Rattle.page_keys.proofs.Common.{true, false, sym, ◌∙◌, arith, is_touched}
use Rattle.page_keys.proofs.OfPut.PageLists.{counted_more, few_counted}
use Rattle.page_keys.proofs.refusals.count_pages.Goals as goal
use Rattle.page_keys.proofs.refusals.count_pages.Goals.{then-is_touched, else-is_touched}

pub overflow_add-count : goal.overflow_add-count
overflow_add-count c =
    let few = few_counted (is_touched c.args.logical c.args.changes.now) c.loop-page.page in
    omega (arith, few, c.loop-page.invariant, c.loop-page-test.true, c.ranges.logical.fits)

pub loop-page-preserved : goal.loop-page-preserved
loop-page-preserved c =
    let t = is_touched c.args.logical c.args.changes.now in
    elim c.if-is_touched.branch [
      | then-is_touched w ↦
          let more = counted_more t c.loop-page.page true (sym c.is_touched.ensures ∙ w.if-is_touched.true) in
          omega (arith, more, w.count-is, c.loop-page.invariant)
      | else-is_touched w ↦
          let more = counted_more t c.loop-page.page false (sym c.is_touched.ensures ∙ w.if-is_touched.false) in
          omega (arith, more, w.count-is, c.loop-page.invariant)
    ]
