use Rattle.slot_tables.proofs.Common.{length, Contains, IfSome, option_map, list_of, rest_from, tables_state}
use Rattle.slot_tables.proofs.OfWaitList.WaitingFor.{IsLowestSoFar}
use Rattle.slot_tables.proofs.tables.Tables.lowest_waiting.Given as goal

abbrev pub invariant-loop-next : goal.invariant-loop-next
invariant-loop-next l =
    IsLowestSoFar (tables_state l.self-inside.base) l.page l.below
    (rest_from (list_of l.waiting l.page) l.next) (option_map (λ at. at.0) l.lowest)
    × IfSome l.next (Contains (list_of l.waiting l.page))

abbrev pub decreases-loop-next : goal.decreases-loop-next
decreases-loop-next l = length (rest_from (list_of l.waiting l.page) l.next)
