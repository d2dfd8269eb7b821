use Rattle.slot_tables.proofs.Common.{◌≡◌, ◌+◌, ◌++◌, length, map, vec_len, Contains, flat_map, IfSome, list_of, rest_from, block_at, copies_below}
use Rattle.std.proofs.Common.{vec_capacity}
use Rattle.slot_tables.proofs.tables.Tables.put_waiting.Given as goal

abbrev pub invariant-loop-next : goal.invariant-loop-next
invariant-loop-next l =
    let k = l.self in
    let xs = list_of l.waiting l.page in
    let left = flat_map (copies_below k l.below) (rest_from xs l.next) in
    let all = flat_map (copies_below k l.below) xs in
    let blocks = map (block_at k.shape.pages_per_block) in
    (l.into.items ++ blocks left ≡ blocks all) × (vec_len l.into + length left ≡ length all)
    × (vec_capacity l.into ≡ vec_capacity l.initial.into) × IfSome l.next (Contains xs)

abbrev pub decreases-loop-next : goal.decreases-loop-next
decreases-loop-next l = length (rest_from (list_of l.waiting l.page) l.next)
