use Rattle.page_keys.proofs.Common.{sym, ap, ◌∙◌, with_page}
use Rattle.page_keys.proofs.OfPut.PageLists.{no_pages, inserted_page, pages_more}
use Rattle.page_keys.proofs.refusals.page_set.Goals as goal

pub loop-change-init : goal.loop-change-init
loop-change-init c = c.new-pages.ensures.empty ∙ sym (no_pages c.args.logical)

pub loop-change-preserved : goal.loop-change-preserved
loop-change-preserved c =
    let more = pages_more c.args.logical c.bucket.result c.args.changes.now
    c.loop-change.change-index c.change-item.result c.as_slice.result.now
    c.loop-change-test.true c.change-item.is c.as_slice.ensures.bytes c.bucket.ensures.bucket
    c.bucket.ensures.exists in
    c.in_ok-insert.ensures.keys ∙ inserted_page c.bucket.result _
    ∙ ap (λ ps. with_page c.bucket.result ps) c.loop-change.invariant ∙ sym more
