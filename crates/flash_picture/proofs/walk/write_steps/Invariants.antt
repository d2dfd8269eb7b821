use Rattle.flash_picture.proofs.Common.{◌≡◌, ◌++◌, take, flat_map, step_text}
use Rattle.flash_picture.proofs.walk.write_steps.Given as goal

abbrev pub invariant-loop-step : goal.invariant-loop-step
invariant-loop-step l = l.text.items ≡ l.initial.text.items ++ flat_map step_text (take l.step-index l.steps)
