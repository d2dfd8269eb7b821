use Rattle.open_table.proofs.Common.{List, PendingWrite}
use Rattle.open_table.proofs.OfTransactions.PageMoves.{HoldsFirst}
use Rattle.open_table.proofs.pending_writes.store_pages.Given as goal

abbrev pub invariant-loop-i : goal.invariant-loop-i
invariant-loop-i g l =
    (held : List PendingWrite) × HoldsFirst l.index l.initial.pages l.pages l.initial.rooms l.rooms l.batch l.i held
