use Rattle.live_flash.proofs.Common.{arith}
use Rattle.std.proofs.lemmas.List.{get_or_default}
use Rattle.live_flash.proofs.follower.fill_counted.Goals as goal

pub returns-clause-bytes : goal.returns-clause-bytes
returns-clause-bytes c = λ k d below. omega (arith, get_or_default c.args.own.now k d 0 below, c.type_inv.own k)
