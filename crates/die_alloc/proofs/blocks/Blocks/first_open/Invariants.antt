use Rattle.std.proofs.Common.{◌≡◌, ◌-◌}
use Rattle.std.specs.List.{range_with_len}
use Rattle.die_alloc.specs.NextSlot.{open_block, first_answer}
use Rattle.die_alloc.proofs.blocks.Blocks.first_open.Given as goal

abbrev pub invariant-loop-die : goal.invariant-loop-die
invariant-loop-die l =
    first_answer (open_block l.self) (range_with_len l.die (l.to - l.die))
    ≡ first_answer (open_block l.self) (range_with_len l.from (l.to - l.from))
