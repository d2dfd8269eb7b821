-- One number more is that number once.
use Rattle.sorted_records.proofs.Common.{◌≡◌, ◌-◌, ◌++◌, length, ap, ◌∙◌, arith}
use Rattle.std.proofs.Common.{replicate}
use Rattle.sorted_records.proofs.search.fill_up.Goals as goal

pub returns-then-next-size-clause-items : goal.returns-then-next-size-clause-items
returns-then-next-size-clause-items c =
    let old = c.args.numbers.now.items in
    let here = c.if-next-size.true in
    let one : 1 ≡ c.args.size - length old = omega arith in
    c.push_reserved.ensures.items ∙ ap (λ n. old ++ replicate n c.args.number) one
