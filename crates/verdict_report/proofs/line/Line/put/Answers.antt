use Rattle.verdict_report.proofs.Common.{◌≡◌, ◌∙◌, ◌++◌, [], ◌∷◌, ap, map, arith, verdict_word, link_word, after_spaces}
use Rattle.std.proofs.Common.{drop}
use Rattle.std.proofs.lemmas.List.{length-drop, nil_from_length}
use Rattle.verdict_report.proofs.LineLemmas.{line_put}
use Rattle.verdict_report.proofs.line.Line.put.Goals as goal

pub returns-clause-put : goal.returns-clause-put
returns-clause-put c =
    let behind : drop 1024 c.args.room.now ≡ [] = nil_from_length (drop 1024 c.args.room.now)
    (omega (arith, length-drop 1024 c.args.room.now)) in
    line_put _ _ _ _ _ _ _ _ _ _ _ _ _ (c.put_bytes-end.ensures.put ∙ ap (λ bytes. 10 ∷ bytes) behind)
    c.put_more-end.ensures.put
    (c.put_links-end.ensures.put ∙ ap (λ links. after_spaces (map link_word links)
    ++ drop c.put_more-end.result c.put_more-end.new.room) c.deref.ensures.value)
    c.put_current-end.ensures.put c.put_reason-end.ensures.put
    (c.put_verdict-end.ensures.put ∙ ap (λ v. after_spaces (verdict_word v ∷ [])
    ++ drop c.put_reason-end.result c.put_reason-end.new.room) c.verdict.ensures)
    c.put_page.ensures.put
