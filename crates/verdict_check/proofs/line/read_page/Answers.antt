use Rattle.verdict_check.proofs.Common.{ap, ◌∙◌, sym, append-nil, ◌++◌, codes, decimal, left, left_behind}
use Rattle.verdict_check.proofs.TextLemmas.{four}
use Rattle.verdict_check.proofs.line.read_page.Goals as goal

pub returns : goal.returns
returns c =
    four (codes "verdict ") (decimal c.args.page) (codes " newest ") (decimal c.args.newest)
    (left c.args.reading) _ _ _ _
    c.then.ensures (c.then_number.ensures ∙ ap (λ n. left_behind (decimal n) (left c.then.result)) c.from.ensures)
    c.then-2.ensures c.then_number-2.ensures
    ∙ ap (λ text. left_behind (codes "verdict " ++ (decimal c.args.page ++ (codes " newest " ++ text)))
    (left c.args.reading))
    (sym (append-nil (decimal c.args.newest)))
