use Rattle.slot_tables.proofs.Common.{◌≡◌, length, Contains, find, IfSome, option_map, is_outside_spare, list_of, rest_from}
use Rattle.slot_tables.proofs.slots.Slots.first_off.Given as goal

abbrev pub invariant-loop-slot : goal.invariant-loop-slot
invariant-loop-slot l =
    let xs = list_of l.self-inside.copies l.number in
    let test = is_outside_spare l.shape (option_map (λ b. b.0) l.block) in
    (find test (rest_from xs l.slot) ≡ find test xs) × IfSome l.slot (Contains xs)

abbrev pub decreases-loop-slot : goal.decreases-loop-slot
decreases-loop-slot l = length (rest_from (list_of l.self-inside.copies l.number) l.slot)
