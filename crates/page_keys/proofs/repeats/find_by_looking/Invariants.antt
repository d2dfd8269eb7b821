use Rattle.page_keys.proofs.Common.{◌≡◌, [], take, drop, repeated}
use Rattle.page_keys.proofs.repeats.find_by_looking.Given as goal

abbrev pub invariant-loop-i : goal.invariant-loop-i
invariant-loop-i l =
    repeated [] l.changes ≡ repeated (take l.i l.changes) (drop l.i l.changes)
