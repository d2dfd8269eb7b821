use Rattle.verdict_check.proofs.Common.{ap, ◌∙◌, codes, decimal, left, left_behind}
use Rattle.verdict_check.proofs.TextLemmas.{four}
use Rattle.verdict_check.proofs.line.read_link.Goals as goal

pub returns : goal.returns
returns c =
    four (codes " ") (decimal c.args.link.page) (codes ":") (decimal c.args.link.version) (left c.args.reading) _ _ _ _
    c.then.ensures (c.then_number.ensures ∙ ap (λ n. left_behind (decimal n) (left c.then.result)) c.from.ensures)
    c.then-2.ensures c.then_number-2.ensures
