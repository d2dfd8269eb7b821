use Rattle.page_keys.proofs.Common.{◌≡◌, ◌++◌, drop, replicate}
use Rattle.page_keys.proofs.pages.clear.Given as goal

abbrev pub invariant-loop-i : goal.invariant-loop-i
invariant-loop-i l = l.room ≡ replicate l.i 0 ++ drop l.i l.initial.room
