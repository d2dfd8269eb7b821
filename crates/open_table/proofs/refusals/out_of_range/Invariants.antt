use Rattle.open_table.proofs.Common.{◌≡◌, drop}
use Rattle.array_machine.specs.Submit.{range}
use Rattle.open_table.proofs.refusals.out_of_range.Given as goal

abbrev pub invariant-loop-i : goal.invariant-loop-i
invariant-loop-i l = range l.logical (drop l.i l.batch.entries) ≡ range l.logical l.batch.entries
