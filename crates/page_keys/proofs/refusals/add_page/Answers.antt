use Rattle.page_keys.proofs.Common.{◌<◌, length, ap, ◌∙◌, arith, with_page}
use Rattle.page_keys.proofs.OfPut.PageLists.{page_past, page_here, page_before, page_last}
use Rattle.page_keys.proofs.refusals.add_page.Goals as goal

pub loop-i-preserved : goal.loop-i-preserved
loop-i-preserved c =
    let i = c.loop-i.invariant in
    let qs = c.loop-i.pages.items in
    let size = ap length i.same in
    let within : c.loop-i.i < length qs =
    omega (arith, c.loop-i-test.true, c.len-i-end.ensures, c.args.pages.now.ok.0, size) in
    let below : c.index-found.result.now < c.args.page =
    grind (arith, c.if-found-page.false, c.if-page-found.false) in
    record {
      same = i.same;
      from = page_past c.args.page qs c.loop-i.i i.from c.index-found.result.now within c.index-found.ensures below;
    }

pub returns-then-found-page : goal.returns-then-found-page
returns-then-found-page c =
    let i = c.loop-i.invariant in
    let qs = c.loop-i.pages.items in
    let size = ap length i.same in
    let within : c.loop-i.i < length qs =
    omega (arith, c.loop-i-test.true, c.len-i-end.ensures, c.args.pages.now.ok.0, size) in
    page_here c.args.page qs c.loop-i.i i.from c.index-found.result.now within c.index-found.ensures
    c.if-found-page.true ∙ ap (with_page c.args.page) i.same

pub returns-then-page-found : goal.returns-then-page-found
returns-then-page-found c =
    let i = c.loop-i.invariant in
    let qs = c.loop-i.pages.items in
    let size = ap length i.same in
    let within : c.loop-i.i < length qs =
    omega (arith, c.loop-i-test.true, c.len-i-end.ensures, c.args.pages.now.ok.0, size) in
    c.in_ok-insert.ensures.items
    ∙ page_before c.args.page qs c.loop-i.i i.from c.index-found.result.now within c.index-found.ensures
    c.if-page-found.true ∙ ap (with_page c.args.page) i.same

pub returns : goal.returns
returns c =
    let i = c.loop-i.invariant in
    let qs = c.loop-i.pages.items in
    let size = ap length i.same in
    c.in_ok-push.ensures.items
    ∙ page_last c.args.page qs c.loop-i.i i.from
    (omega (arith, c.loop-i-test.false, c.len-i-end.ensures, c.args.pages.now.ok.0, size))
    (omega (arith, c.loop-i.auto.i-end, c.len-i-end.ensures, c.args.pages.now.ok.0, size))
    ∙ ap (with_page c.args.page) i.same
