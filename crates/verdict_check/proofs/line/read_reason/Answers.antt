use Rattle.verdict_check.proofs.Common.{ap, ◌∙◌, sym, append-nil, ◌++◌, codes, decimal, reason_words, after_spaces, left, left_behind}
use Rattle.verdict_check.proofs.TextLemmas.{both}
use Rattle.verdict_check.proofs.line.read_reason.Goals as goal

pub returns-in-Straddled : goal.returns-in-Straddled
returns-in-Straddled c =
    both (codes " straddled ") (decimal c.in-Straddled.version) (left c.args.reading) _ _ c.then-in-Straddled.ensures
    c.then_number.ensures
    ∙ ap (λ text. left_behind (codes " straddled " ++ text) (left c.args.reading))
    (sym (append-nil (decimal c.in-Straddled.version)))
    ∙ ap (λ why. left_behind (after_spaces (reason_words why)) (left c.args.reading)) (sym c.in-Straddled.is)
