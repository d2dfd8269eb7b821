use Rattle.slot_tables.proofs.Common.{length, Contains, IfSome, list_of, rest_from}
use Rattle.slot_tables.proofs.OfRecords.Numbering.{IsAhead}
use Rattle.slot_tables.proofs.records.Records.number_of.Given as goal

abbrev pub invariant-loop-next : goal.invariant-loop-next
invariant-loop-next l = IsAhead l.self-inside l.page l.version l.next
    × IfSome l.next (Contains (list_of l.self-inside.lists l.page))

abbrev pub decreases-loop-next : goal.decreases-loop-next
decreases-loop-next l = length (rest_from (list_of l.self-inside.lists l.page) l.next)
