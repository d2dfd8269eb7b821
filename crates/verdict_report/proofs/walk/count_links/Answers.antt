use Rattle.verdict_report.proofs.Common.{arith, links_of}
use Rattle.std.proofs.lemmas.List.{length-take}
use Rattle.verdict_report.proofs.walk.count_links.Goals as goal

pub returns-then-shown : goal.returns-then-shown
returns-then-shown c = omega (
  arith,
  c.requires,
  length-take 16 (links_of c.args.records.now.chart c.args.logical c.args.page),
)
