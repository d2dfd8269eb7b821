use Rattle.verdict_report.proofs.Common.{arith, ◌∙◌, ◌++◌, ap, length, ◌≡◌, pages}
use Rattle.verdict_report.proofs.PageLemmas.{length-pages, lines_with, lines_without, lines_report}
use Rattle.verdict_report.proofs.report.write_lines.Goals as goal
use Rattle.verdict_report.proofs.report.write_lines.Goals.{in-Some+in_ok-line+in_ok-write, in_default}

pub overflow_add-count : goal.overflow_add-count
overflow_add-count c = let few = length-pages c.args.records.now.chart c.loop-page.page in
    let n = c.loop-page.invariant.count_is in omega arith

pub loop-page-preserved : goal.loop-page-preserved
loop-page-preserved c =
    elim c.match-newest_record.branch [
      | in-Some+in_ok-line+in_ok-write w ↦ lines_with _ c.args.records.now.chart c.loop-page.page
          _ _ _ _ _ _ w.in-Some.ensures c.loop-page.invariant
          (ap (λ t. t.items) w.text-is ∙ w.in_ok-write.ensures
          ∙ ap (λ line. c.loop-page.text.items ++ line) w.in_ok-line.ensures.text)
          w.count-is
      | in_default w ↦ lines_without _ c.args.records.now.chart c.loop-page.page _ _ _ _ _ w.in_default.ensures
          c.loop-page.invariant
          (ap (λ t. t.items) w.text-is) w.count-is
    ]

pub returns-clause-count : goal.returns-clause-count
returns-clause-count c =
    c.loop-page.invariant.count_is
    ∙ ap (λ n. length (pages c.args.records.now.chart n))
    (let end : c.loop-page.page ≡ c.args.logical = omega arith in end)

pub returns-clause-text : goal.returns-clause-text
returns-clause-text c =
    lines_report c.args.protocol c.args.records.now.chart c.args.logical _ _ _ _ _ (omega arith) c.loop-page.invariant
    c.in_ok-write_last.ensures
