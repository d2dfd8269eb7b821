use Rattle.page_keys.proofs.Common.{take, AreBelow}
use Rattle.page_keys.proofs.entries.place.Given as goal

abbrev pub invariant-loop-i : goal.invariant-loop-i
invariant-loop-i l = AreBelow l.key (take l.i l.entries)
