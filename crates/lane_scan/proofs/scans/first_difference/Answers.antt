use Rattle.std.proofs.Common.{sym, refl, arith}
use Rattle.lane_scan.proofs.ScanLemmas.{some_exact, some_apart, some_least, none_exact, none_same}
use Rattle.lane_scan.proofs.scans.first_difference.Goals as goal

pub returns-then-same-a-clause-exact : goal.returns-then-same-a-clause-exact
returns-then-same-a-clause-exact c = some_exact c.args.a.now c.args.b.now c.requires _ (sym c.count_same-same.ensures)
    c.if-same-a.true

pub returns-then-same-a-clause-equal : goal.returns-then-same-a-clause-equal
returns-then-same-a-clause-equal c = (
  λ h. absurd cc,
  λ same. absurd (some_apart c.args.a.now c.args.b.now c.requires _ (sym c.count_same-same.ensures)
      c.if-same-a.true same),
)

pub returns-then-same-a-clause-least : goal.returns-then-same-a-clause-least
returns-then-same-a-clause-least c = some_least c.args.a.now c.args.b.now c.requires _ (sym c.count_same-same.ensures)
    c.if-same-a.true

pub returns-else-same-a-clause-exact : goal.returns-else-same-a-clause-exact
returns-else-same-a-clause-exact c = none_exact c.args.a.now c.args.b.now c.requires
    (omega (arith, c.count_same-same.ensures))

pub returns-else-same-a-clause-equal : goal.returns-else-same-a-clause-equal
returns-else-same-a-clause-equal c = (
  λ h. none_same c.args.a.now c.args.b.now c.requires
      (omega (arith, c.count_same-same.ensures)),
  λ same. refl,
)
