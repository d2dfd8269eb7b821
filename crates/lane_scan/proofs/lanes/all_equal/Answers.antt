use Rattle.std.proofs.Common.{take, arith}
use Rattle.std.proofs.lemmas.List.{length-take}
use Rattle.lane_scan.proofs.LaneLemmas.{mask-splat}
use Rattle.lane_scan.proofs.lanes.all_equal.Goals as goal

pub returns : goal.returns
returns c = mask-splat (take 32 c.args.bytes.now) c.args.value (omega (arith, length-take 32 c.args.bytes.now))
