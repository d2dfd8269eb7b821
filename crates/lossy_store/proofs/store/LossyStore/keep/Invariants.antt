use Rattle.lossy_store.proofs.Common.{LeavesBytes, file_of}
use Rattle.lossy_store.proofs.store.LossyStore.keep.Given as goal

abbrev pub invariant-loop-at : goal.invariant-loop-at
invariant-loop-at l =
    LeavesBytes (file_of l.self.durable.items l.self.writes.items l.self.copies) l.initial.left →
    LeavesBytes (file_of l.self.durable.items l.self.writes.items l.self.copies) l.left
