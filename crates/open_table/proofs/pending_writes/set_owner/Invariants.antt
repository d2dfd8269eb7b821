use Rattle.open_table.proofs.Common.{◌≡◌, length, drop, with_owner}
use Rattle.open_table.proofs.pending_writes.set_owner.Given as goal

abbrev pub invariant-loop-p : goal.invariant-loop-p
invariant-loop-p l =
    (with_owner l.owners l.owner (drop l.p-index l.pages) ≡ with_owner l.initial.owners l.owner l.pages)
    × (length l.owners ≡ length l.initial.owners)
