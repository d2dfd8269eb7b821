use Rattle.std.proofs.Common.{◌≡◌, ◌++◌, map}
use Rattle.std.specs.List.{range_with_len}
use Rattle.std.specs.Fork.{slice_chunk}
use Rattle.image_file.specs.Spelling.{state_byte}
use Rattle.live_image.specs.Slots.{live_seen}
use Rattle.live_file.proofs.reading.add_states.Given as goal

abbrev pub invariant-loop-at : goal.invariant-loop-at
invariant-loop-at l =
    l.image.items ≡ l.initial.image.items
    ++ map (λ k. state_byte (live_seen (slice_chunk l.slots l.size k))) (range_with_len 0 l.at)
