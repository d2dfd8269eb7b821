use Rattle.std.proofs.Common.{arith}
use Rattle.std.proofs.lemmas.List.{get_or_default}
use Rattle.live_tests.proofs.opening.are_bytes.Goals as goal

pub returns : goal.returns
returns c = λ k d below. omega (arith, get_or_default c.args.bytes.now k d 0 below, c.type_inv.bytes k)
