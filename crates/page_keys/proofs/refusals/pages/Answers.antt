use Rattle.page_keys.proofs.Common.{take, sym, ap, ◌∙◌, with_page}
use Rattle.page_keys.proofs.OfPut.PageLists.{no_pages, pages_more, few_pages}
use Rattle.page_keys.proofs.refusals.pages.Goals as goal

pub loop-change-init : goal.loop-change-init
loop-change-init c = c.new-pages.ensures.items ∙ sym (no_pages c.args.logical)

pub loop-change-preserved : goal.loop-change-preserved
loop-change-preserved c =
    let more = pages_more c.args.logical c.bucket.result c.args.changes.now
    c.loop-change.change-index c.change-item.result c.as_slice.result.now
    c.loop-change-test.true c.change-item.is c.as_slice.ensures.bytes c.bucket.ensures.bucket
    c.bucket.ensures.exists in
    c.in_ok-add_page.ensures
    ∙ ap (λ ps. with_page c.bucket.result ps) c.loop-change.invariant ∙ sym more

pub returns-clause-few : goal.returns-clause-few
returns-clause-few c =
    rw c.loop-change.invariant (few_pages c.args.logical (take c.loop-change.change-index c.args.changes.now))

pub returns-then-changes-gt-FEW-clause-few : goal.returns-then-changes-gt-FEW-clause-few
returns-then-changes-gt-FEW-clause-few c =
    rw (c.in_ok-list_pages.ensures, c.in_ok-page_set.ensures) (few_pages c.args.logical c.args.changes.now)
