use Rattle.std.proofs.Common.{◌≡◌}
use Rattle.unit_tests.proofs.table_lines.are_steps.Given as goal

abbrev pub invariant-loop-step : goal.invariant-loop-step
invariant-loop-step l = l.blocks.shape ≡ l.shape
