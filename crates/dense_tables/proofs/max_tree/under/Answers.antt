use Rattle.dense_tables.proofs.Common.{◌≡◌, ◌+◌, ◌-◌, ◌*◌, min, length, arith, drop, refl, length-drop, under}
use Rattle.std.proofs.lemmas.List.{take_min, drop_min}
use Rattle.dense_tables.proofs.max_tree.under.Goals as goal

pub returns : goal.returns
unfolding under
returns c =
    let from : c.min-from.result ≡ min (16 * c.args.cell + 1) (length c.args.cells.now) = omega arith in
    let rest = drop (16 * c.args.cell + 1) c.args.cells.now in
    let size : c.min-to.result - c.min-from.result ≡ min 16 (length rest) =
    omega (arith, length-drop (16 * c.args.cell + 1) c.args.cells.now) in
    rw (size, from, drop_min (16 * c.args.cell + 1) c.args.cells.now, take_min 16 rest) refl
