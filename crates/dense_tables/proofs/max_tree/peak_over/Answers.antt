use Rattle.dense_tables.proofs.Common.{sym, ◌∙◌, arith}
use Rattle.dense_tables.proofs.Tree.{rises, stays}
use Rattle.dense_tables.proofs.max_tree.peak_over.Goals as goal

pub returns-then-now-peak : goal.returns-then-now-peak
returns-then-now-peak c =
    sym (rises c.args.cells.now c.args.cell c.args.was c.requires.first c.requires.within
    (omega (arith, c.requires.peak)))

pub returns-then-was-peak : goal.returns-then-was-peak
returns-then-was-peak c =
    c.requires.peak ∙ sym (stays c.args.cells.now c.args.cell c.args.was c.requires.first c.requires.within
    (omega (arith, c.requires.peak)) (omega (arith, c.requires.peak)))
