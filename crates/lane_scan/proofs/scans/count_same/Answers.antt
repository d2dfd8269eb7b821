use Rattle.std.proofs.Common.{sym, ◌∙◌, ap, ◌+◌, arith}
use Rattle.lane_scan.proofs.ScanLemmas.{rest_is, front_is, front_differs, front_goes_on}
use Rattle.lane_scan.proofs.scans.count_same.Goals as goal

pub returns-then-same-lt-LANES : goal.returns-then-same-lt-LANES
returns-then-same-lt-LANES c =
    let a = c.args.a.now in
    let b = c.args.b.now in
    let at = c.loop-at.at in
    let same = rw (rest_is at a, rest_is at b) at c.count_same-same.ensures in
    ap (λ n. at + n) same
    ∙ sym (front_differs at a b c.requires c.loop-at.invariant.0 c.loop-at.invariant.1 32 (omega arith)
    (omega (arith, same)))

pub loop-at-preserved : goal.loop-at-preserved
loop-at-preserved c =
    let a = c.args.a.now in
    let b = c.args.b.now in
    let at = c.loop-at.at in
    let same = rw (rest_is at a, rest_is at b) at c.count_same-same.ensures in (
      omega arith,
      front_goes_on at a b c.requires c.loop-at.invariant.0 c.loop-at.invariant.1 32 (omega arith)
          (omega (arith, same)),
    )

pub returns : goal.returns
returns c =
    let a = c.args.a.now in
    let b = c.args.b.now in
    let at = c.loop-at.at in
    let same = rw (rest_is at a, rest_is at b) at c.count_same_by_one.ensures.same in
    ap (λ n. at + n) same ∙ sym (front_is at a b c.requires c.loop-at.invariant.0 c.loop-at.invariant.1)
