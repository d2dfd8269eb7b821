use Rattle.dense_tables.proofs.Common.{◌≡◌, ◌+◌, ◌-◌, ◌*◌, ◌<◌, ◌≤◌}
use Rattle.dense_tables.specs.Levels.{level_start}
use Rattle.dense_tables.proofs.max_tree.MaxTree.with_top.Given as goal

abbrev pub invariant-loop-start : goal.invariant-loop-start
invariant-loop-start l =
    (0 < l.levels) × (l.start ≡ level_start l.levels) × (l.levels ≤ l.start) × (l.start ≤ 2 * l.count + 1)

abbrev pub decreases-loop-start : goal.decreases-loop-start
decreases-loop-start l = l.count - l.start
