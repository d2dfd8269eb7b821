use Rattle.tx_engine.proofs.OfStepAll.Loading.{NotedTo}
use Rattle.tx_engine.proofs.batches.note_all.Given as goal

abbrev pub invariant-loop-at : goal.invariant-loop-at
invariant-loop-at g l = NotedTo l.initial.store l.store l.initial.transactions l.transactions l.jobs l.at
