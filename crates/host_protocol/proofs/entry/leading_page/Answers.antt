use Rattle.host_protocol.proofs.Common.{sym, inl, inr}
use Rattle.host_protocol.proofs.LeadingLemmas.{page_none, page_other}
use Rattle.host_protocol.proofs.entry.leading_page.Goals as goal
use Rattle.host_protocol.proofs.entry.leading_page.Goals.{then-place-line-via-then-place-line, then-place-line-via-else-place-line+then-line-place-ne61}

pub returns-in_err-page-clause-none : goal.returns-in_err-page-clause-none
returns-in_err-page-clause-none c = rw c.from_residual.ensures
    (page_none c.args.line.now (sym c.in_err-page.ensures.number))

pub returns-then-place-line-clause-none : goal.returns-then-place-line-clause-none
returns-then-place-line-clause-none c =
    let here = c.in_ok-page.ensures.digits in
    page_other c.args.line.now (elim c.then-place-line.branch [
      | then-place-line-via-then-place-line w ↦ inl (rw here at w.if-place-line.true)
      | then-place-line-via-else-place-line+then-line-place-ne61 w ↦ inr (rw here at w.if-line-place-ne61.true)
    ])
