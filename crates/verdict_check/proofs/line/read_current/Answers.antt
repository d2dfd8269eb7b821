use Rattle.verdict_check.proofs.Common.{codes, decimal, left}
use Rattle.verdict_check.proofs.TextLemmas.{three}
use Rattle.verdict_check.proofs.line.read_current.Goals as goal

pub returns : goal.returns
returns c =
    three (codes " current ") (decimal c.args.current) (codes " walk") (left c.args.reading) _ _ _ c.then.ensures
    c.then_number.ensures c.then-2.ensures
