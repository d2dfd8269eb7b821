use Rattle.std.proofs.Common.{take, arith}
use Rattle.std.proofs.lemmas.List.{length-take}
use Rattle.lane_scan.proofs.LaneLemmas.{all_same, first_differing}
use Rattle.lane_scan.proofs.lanes.count_same.Goals as goal

pub returns-then-differ-eq0 : goal.returns-then-differ-eq0
returns-then-differ-eq0 c =
    all_same (take 32 c.args.a.now) (take 32 c.args.b.now) (omega (arith, length-take 32 c.args.a.now))
    (omega (arith, length-take 32 c.args.b.now)) c.if-differ-eq0.true

pub returns-else-differ-eq0 : goal.returns-else-differ-eq0
returns-else-differ-eq0 c =
    first_differing (take 32 c.args.a.now) (take 32 c.args.b.now) (omega (arith, length-take 32 c.args.a.now))
    (omega (arith, length-take 32 c.args.b.now)) c.if-differ-eq0.false
