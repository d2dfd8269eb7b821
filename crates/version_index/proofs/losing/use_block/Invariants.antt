use Rattle.version_index.proofs.Common.{◌≡◌, used_from}
use Rattle.version_index.proofs.losing.use_block.Given as goal

abbrev pub invariant-loop-i : goal.invariant-loop-i
invariant-loop-i l = l.tables ≡ used_from l.initial.tables l.first l.to l.i
