use Rattle.verdict_report.proofs.Common.{◌≡◌, ◌+◌, length, min}
use Rattle.std.proofs.Common.{vec_capacity}
use Rattle.verdict_report.proofs.WalkLemmas.{IsTaking}
use Rattle.verdict_report.proofs.walk.push_links.Given as goal

abbrev pub invariant-loop-turn : goal.invariant-loop-turn
invariant-loop-turn l = record {
  taken : IsTaking l.records.chart l.start (min l.logical 15) l._turn l.links.items l.last;
  len : length l.links.items ≡ l._turn + 1;
  room : vec_capacity l.links ≡ 16;
}
