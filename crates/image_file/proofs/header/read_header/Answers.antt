use Rattle.image_file.proofs.Common.{arith}
use Rattle.std.proofs.lemmas.List.{get_or_default}
use Rattle.image_file.proofs.header.read_header.Goals as goal

pub returns-clause-bytes : goal.returns-clause-bytes
returns-clause-bytes c = λ k d below. omega (arith, get_or_default c.args.bytes.now k d 0 below, c.type_inv.bytes k)
