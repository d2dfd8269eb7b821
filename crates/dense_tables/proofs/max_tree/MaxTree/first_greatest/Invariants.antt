use Rattle.dense_tables.proofs.Descent.{IsOnWay}
use Rattle.dense_tables.proofs.Tree.{rooted}
use Rattle.dense_tables.proofs.max_tree.MaxTree.first_greatest.Given as goal

abbrev pub invariant-loop-level : goal.invariant-loop-level
invariant-loop-level l = IsOnWay (rooted l.self-inside.cells.items) l._level l.start l.place
