use Rattle.open_table.proofs.Common.{◌≡◌, [], drop}
use Rattle.std.proofs.Common.{take}
use Rattle.array_machine.specs.Submit.{repeated}
use Rattle.open_table.proofs.refusals.first_repeated.Given as goal

abbrev pub invariant-loop-i : goal.invariant-loop-i
invariant-loop-i l = repeated (take l.i l.batch.entries) (drop l.i l.batch.entries) ≡ repeated [] l.batch.entries
