use Rattle.mem_folder.proofs.Common.{take, AllBelow}
use Rattle.mem_folder.proofs.naming.next_number.Given as goal

abbrev pub invariant-loop-change : goal.invariant-loop-change
invariant-loop-change l = AllBelow (take l.change-index l.changes) l.next
