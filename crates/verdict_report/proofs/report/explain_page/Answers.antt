use Rattle.verdict_report.proofs.Common.{length, ap, ◌∙◌, arith, links_of}
use Rattle.std.proofs.lemmas.List.{length-take}
use Rattle.verdict_report.proofs.LineLemmas.{line_explained}
use Rattle.verdict_report.proofs.report.explain_page.Goals as goal

pub returns-clause-text : goal.returns-clause-text
returns-clause-text c =
    line_explained c.args.protocol c.args.records.now.chart c.args.logical c.args.page _ _ _ _ c.requires.version
    c.in_ok-of_page.ensures c.why-why.ensures c.current.ensures

pub returns-clause-few : goal.returns-clause-few
returns-clause-few c =
    let shown = ap length c.in_ok-of_page.ensures.shown
    ∙ length-take 16 (links_of c.args.records.now.chart c.args.logical c.args.page) in
    omega arith
