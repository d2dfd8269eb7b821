use Rattle.flash_picture.proofs.Common.{◌≡◌, ◌≤◌, length}
use Rattle.std.proofs.Common.{vec_capacity}
use Rattle.flash_picture.proofs.Shown.{IsShowing}
use Rattle.flash_picture.proofs.walk.push_steps.Given as goal

abbrev pub invariant-loop-turn : goal.invariant-loop-turn
invariant-loop-turn l =
    IsShowing l.chart l.start l.last l.logical l._turn l.steps.items l.link × (length l.steps.items ≡ l._turn)
    × (l._turn ≤ 16) × (vec_capacity l.steps ≡ 18)
