use Rattle.dense_tables.proofs.Common.{◌≡◌, ◌+◌, ◌-◌, ◌*◌, ap, ◌∙◌, arith, take, drop, greatest, under}
use Rattle.dense_tables.proofs.max_tree.greatest_under.Goals as goal

pub returns-then-from-cells : goal.returns-then-from-cells
unfolding under
returns-then-from-cells c =
    let from = 16 * c.args.cell + 1 in
    let size : (from + 16) - from ≡ 16 = omega arith in
    c.greatest_of_sixteen.ensures ∙ ap (λ n. greatest (take n (drop from c.args.cells.now))) size
