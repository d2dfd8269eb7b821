use Rattle.open_table.proofs.OfTransactions.PageMoves.{FreesFirst}
use Rattle.open_table.proofs.pending_writes.free_pages.Given as goal

abbrev pub invariant-loop : goal.invariant-loop
invariant-loop l = FreesFirst l.initial.pages l.pages l.initial.rooms l.rooms l.counter
