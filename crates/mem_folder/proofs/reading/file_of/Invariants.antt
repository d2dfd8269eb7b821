use Rattle.mem_folder.proofs.Common.{take, named}
use Rattle.mem_folder.specs.Changes.{IsSeen}
use Rattle.mem_folder.proofs.reading.file_of.Given as goal

abbrev pub invariant-loop-change : goal.invariant-loop-change
invariant-loop-change l = IsSeen (named (take l.change-index l.changes) l.name) l.seen.now l.seen.kept
