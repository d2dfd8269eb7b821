use Rattle.open_table.proofs.Common.{◌≡◌, drop}
use Rattle.open_table.specs.PendingWrites.{owned_page}
use Rattle.open_table.proofs.refusals.first_overlap.Given as goal

abbrev pub invariant-loop-i : goal.invariant-loop-i
invariant-loop-i l = owned_page l.owners (drop l.i l.batch.entries) ≡ owned_page l.owners l.batch.entries
