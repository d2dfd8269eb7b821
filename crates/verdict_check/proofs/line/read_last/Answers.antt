use Rattle.verdict_check.proofs.Common.{ap, ◌∙◌, codes, decimal, left, left_behind}
use Rattle.verdict_check.proofs.TextLemmas.{three}
use Rattle.verdict_check.proofs.line.read_last.Goals as goal

pub returns : goal.returns
returns c =
    three (codes "explained ") (decimal c.args.pages) (codes "\n") (left c.args.reading) _ _ _ c.then.ensures
    (c.then_number.ensures ∙ ap (λ n. left_behind (decimal n) (left c.then.result)) c.from.ensures) c.then-2.ensures
