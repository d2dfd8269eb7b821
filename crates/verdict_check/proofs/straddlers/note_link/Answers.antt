use Rattle.verdict_check.proofs.Common.{◌<◌, Some, None, length, subst, sym, ap, ◌∙◌, arith, newest}
use Rattle.std.proofs.Common.{slice_index_or}
use Rattle.verdict_check.proofs.ChainLemmas.{page_within, leads_behind, before_more}
use Rattle.verdict_check.proofs.straddlers.note_link.Goals as goal

pub slice_copy_out-before : goal.slice_copy_out-before
slice_copy_out-before c =
    let e = c.newest.ensures in
    let low = c.if-link-newest.true in
    page_within c.args.records.now.list.now c.newest_link-link.result.page (length c.args.last.now)
    c.requires.pages (omega arith)

pub bounds-last-into : goal.bounds-last-into
bounds-last-into c =
    let e = c.newest.ensures in
    let low = c.if-link-newest.true in
    page_within c.args.records.now.list.now c.newest_link-link.result.page (length c.args.last.now)
    c.requires.pages (omega arith)

pub returns-then-link-newest-clause-before : goal.returns-then-link-newest-clause-before
returns-then-link-newest-clause-before c =
    let list = c.args.records.now.list.now in
    let link = c.newest_link-link.result in
    let e = c.newest.ensures in
    let low = c.if-link-newest.true in
    let behind : link.version < newest list link.page = omega arith in
    let within = page_within list link.page (length c.args.last.now) c.requires.pages (omega arith) in
    let leads = leads_behind list c.args.page (subst (λ l. l.version < newest list l.page)
    c.newest_link-link.ensures behind)
    ∙ ap (λ l. Some l.page) (sym c.newest_link-link.ensures) in
    before_more list c.args.page link.page c.args.before.now (slice_index_or c.args.last.now link.page None)
    c.requires.page leads
    (c.requires.last link.page within) c.requires.before
