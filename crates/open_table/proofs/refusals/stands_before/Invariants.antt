use Rattle.open_table.proofs.Common.{◌≡◌, false, list_any}
use Rattle.std.proofs.Common.{take}
use Rattle.array_machine.specs.Submit.{is_of}
use Rattle.open_table.proofs.refusals.stands_before.Given as goal

abbrev pub invariant-loop-k : goal.invariant-loop-k
invariant-loop-k l = list_any (is_of l.page) (take l.k l.batch.entries) ≡ false
