use Rattle.verdict_check.proofs.Common.{ap, ◌∙◌, sym, append-nil, ◌++◌, ◌∷◌, [], ◌-◌, codes, decimal, cond-true, cond-false, after_spaces, left, left_behind}
use Rattle.std.proofs.Common.{ltb}
use Rattle.std.proofs.lemmas.Bool.{lt-ltb, le-ltb}
use Rattle.verdict_check.proofs.TextLemmas.{both, no_piece}
use Rattle.verdict_check.proofs.line.read_more.Goals as goal

pub returns-then-links-le-SHOWN_LINKS : goal.returns-then-links-le-SHOWN_LINKS
returns-then-links-le-SHOWN_LINKS c =
    no_piece (left c.args.reading)
    ∙ ap (λ words. left_behind (after_spaces words) (left c.args.reading))
    (sym (cond-false (ltb 16 c.args.links) (codes "more" ∷ decimal (c.args.links - 16) ∷ []) []
    (le-ltb 16 c.args.links c.if-links-le-SHOWN_LINKS.true)))

pub returns : goal.returns
returns c =
    both (codes " more ") (decimal (c.args.links - 16)) (left c.args.reading) _ _ c.then.ensures
    (c.then_number.ensures ∙ ap (λ n. left_behind (decimal n) (left c.then.result)) c.from.ensures)
    ∙ ap (λ text. left_behind (codes " more " ++ text) (left c.args.reading))
    (sym (append-nil (decimal (c.args.links - 16))))
    ∙ ap (λ words. left_behind (after_spaces words) (left c.args.reading))
    (sym (cond-true (ltb 16 c.args.links) (codes "more" ∷ decimal (c.args.links - 16) ∷ []) []
    (lt-ltb 16 c.args.links c.if-links-le-SHOWN_LINKS.false)))
