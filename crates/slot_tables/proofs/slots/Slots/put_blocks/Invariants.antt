use Rattle.slot_tables.proofs.Common.{◌≡◌, ◌+◌, ◌++◌, length, map, vec_len, Contains, IfSome, list_of, rest_from, block_at}
use Rattle.std.proofs.Common.{vec_capacity}
use Rattle.slot_tables.proofs.slots.Slots.put_blocks.Given as goal

abbrev pub invariant-loop-slot : goal.invariant-loop-slot
invariant-loop-slot l =
    let xs = list_of l.self-inside.copies l.number in
    let rest = rest_from xs l.slot in
    (l.into.items ++ map (block_at l.size) rest ≡ l.initial.into.items ++ map (block_at l.size) xs)
    × (vec_len l.into + length rest ≡ vec_len l.initial.into + length xs)
    × (vec_capacity l.into ≡ vec_capacity l.initial.into)
    × IfSome l.slot (Contains xs)

abbrev pub decreases-loop-slot : goal.decreases-loop-slot
decreases-loop-slot l = length (rest_from (list_of l.self-inside.copies l.number) l.slot)
