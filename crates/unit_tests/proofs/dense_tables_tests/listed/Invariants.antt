use Rattle.std.proofs.Common.{◌≡◌, ◌++◌, length}
use Rattle.std.specs.List.{Contains}
use Rattle.std.specs.Option.{IfSome}
use Rattle.dense_tables.specs.LinkedLists.{list_of, rest_from}
use Rattle.unit_tests.proofs.dense_tables_tests.listed.Given as goal

abbrev pub invariant-loop-at : goal.invariant-loop-at
invariant-loop-at l =
    (l.list.items ++ rest_from (list_of l.chains l.key) l.at ≡ list_of l.chains l.key)
    × IfSome l.at (Contains (list_of l.chains l.key))

abbrev pub decreases-loop-at : goal.decreases-loop-at
decreases-loop-at l = length (rest_from (list_of l.chains l.key) l.at)
