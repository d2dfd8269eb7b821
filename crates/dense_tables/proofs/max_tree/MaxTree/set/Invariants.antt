use Rattle.dense_tables.proofs.Common.{◌≡◌, ◌+◌, take, drop, length, set, IsShape, IsTop}
use Rattle.dense_tables.specs.Levels.{IsFilled}
use Rattle.dense_tables.proofs.Tree.{IsRising}
use Rattle.dense_tables.proofs.max_tree.MaxTree.set.Given as goal

abbrev pub invariant-loop-self : goal.invariant-loop-self
invariant-loop-self l =
    IsShape l.self-inside.levels l.self-inside.start (length l.self-inside.cells.items)
    × IsTop l.self-inside.top × IsRising l.self-inside.cells.items l.self-inside.top l.self-inside.start l.cell l.was
    × (take l.self-inside.count (drop l.self-inside.start l.self-inside.cells.items) ≡ set l.fn.self l.at l.to)
    × IsFilled l.self-inside.cells.items (l.self-inside.start + l.self-inside.count)

abbrev pub decreases-loop-self : goal.decreases-loop-self
decreases-loop-self l = l.cell
