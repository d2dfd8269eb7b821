use Rattle.flash_picture.proofs.Common.{◌≡◌, ◌+◌, ◌≤◌, ◌++◌, length, steps_rows}
use Rattle.std.proofs.Common.{drop}
use Rattle.flash_picture.specs.Svg.{steps_begin}
use Rattle.flash_picture.proofs.svg_lines.write_steps.Given as goal

abbrev pub invariant-loop-step : goal.invariant-loop-step
invariant-loop-step l =
    (l.text.items ++ steps_rows l.columns (drop l.step-index l.steps) ≡ l.initial.text.items
    ++ steps_rows l.fn.first l.steps)
    × (l.begun + steps_begin l.columns (drop l.step-index l.steps) ≡ steps_begin l.fn.first l.steps)
    × (l.columns ≤ length l.text.items) × (l.begun ≤ l.step-index)
