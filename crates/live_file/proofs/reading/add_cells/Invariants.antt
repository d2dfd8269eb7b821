use Rattle.std.proofs.Common.{◌≡◌, ◌++◌}
use Rattle.std.specs.List.{flat_map, range_with_len}
use Rattle.std.specs.Fork.{slice_chunk}
use Rattle.zero_count.specs.Zeros.{own_of}
use Rattle.live_file.proofs.reading.add_cells.Given as goal

abbrev pub invariant-loop-at : goal.invariant-loop-at
invariant-loop-at l =
    l.image.items ≡ l.initial.image.items
    ++ flat_map (λ k. own_of (slice_chunk l.slots l.size k)) (range_with_len 0 l.at)
