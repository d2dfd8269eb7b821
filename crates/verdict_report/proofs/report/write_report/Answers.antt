mod Alike
use Rattle.verdict_report.proofs.Common.{◌≡◌, ◌∙◌, ◌++◌, ℕ, ap, length, pages}
use Rattle.std.proofs.lemmas.Result.{IfOk-weaker, on_ok_weaker}
use Rattle.verdict_report.proofs.report.write_report.Answers.Alike.{pages_alike, report_alike}
use Rattle.verdict_report.proofs.report.write_report.Goals as goal

pub returns-clause-count : goal.returns-clause-count
returns-clause-count c =
    let sorted = c.in_ok-records.records.chart in
    IfOk-weaker c.write_lines-outcome.result (λ (n : ℕ). n ≡ length (pages sorted c.args.logical))
    (λ (n : ℕ). n ≡ length (pages c.args.list.now c.args.logical))
    (λ n count. count ∙ ap length (pages_alike c.args.list.now sorted c.in_ok-records.ensures c.args.logical))
    c.write_lines-outcome.ensures.count

pub returns-clause-text : goal.returns-clause-text
returns-clause-text c =
    on_ok_weaker c.write_lines-outcome.result
    (λ text. text ∙ ap (λ t. c.args.text.now.items ++ t)
    (report_alike c.args.list.now c.in_ok-records.records.chart c.in_ok-records.ensures c.args.protocol c.args.logical))
    c.write_lines-outcome.ensures.text
