use Rattle.mem_folder.proofs.Common.{take}
use Rattle.mem_folder.specs.Changes.{IsSeen, held}
use Rattle.mem_folder.proofs.reading.bytes_of.Given as goal

abbrev pub invariant-loop-change : goal.invariant-loop-change
invariant-loop-change l = IsSeen (held (take l.change-index l.changes) l.file) l.seen.now.now l.seen.kept.now
