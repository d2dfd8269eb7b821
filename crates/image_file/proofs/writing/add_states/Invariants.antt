use Rattle.image_file.proofs.Common.{◌≡◌, ◌++◌, map, take, seen_of, state_byte}
use Rattle.image_file.proofs.writing.add_states.Given as goal

abbrev pub invariant-loop-slot : goal.invariant-loop-slot
invariant-loop-slot l = l.bytes.items ≡ l.fn.bytes.items ++ map (λ slot. state_byte (seen_of slot))
    (take l.slot l.flash.image)
