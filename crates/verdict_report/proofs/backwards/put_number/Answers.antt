use Rattle.verdict_report.proofs.Common.{arith}
use Rattle.list_lemmas.proofs.Values.{digits_64}
use Rattle.verdict_report.proofs.backwards.put_number.Goals as goal

pub write_digits-requires : goal.write_digits-requires
write_digits-requires c = let few = digits_64 c.args.number (omega arith) in (omega arith, omega arith)

pub returns-clause-within : goal.returns-clause-within
returns-clause-within c =
    let few = digits_64 c.args.number (omega arith) in
    let start = c.write_digits.ensures.start in
    (omega arith, omega arith)
