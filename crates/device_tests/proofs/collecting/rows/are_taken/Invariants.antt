use Rattle.std.proofs.Common.{◌≡◌}
use Rattle.mem_flash.specs.MemFlashState.{state_of}
use Rattle.collector.specs.Matches.{Matches}
use Rattle.device_tests.proofs.collecting.rows.are_taken.Given as goal

abbrev pub invariant-loop-step : goal.invariant-loop-step
invariant-loop-step g l =
    Matches (state_of l.kept.flash) l.kept.index l.kept.blocks l.kept.unsure
    × (l.kept.index.config ≡ l.fn.kept.index.config)
