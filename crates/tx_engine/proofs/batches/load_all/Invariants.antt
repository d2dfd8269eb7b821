use Rattle.tx_engine.proofs.OfStepAll.Loading.{LoadedTo}
use Rattle.tx_engine.proofs.batches.load_all.Given as goal

abbrev pub invariant-loop-at : goal.invariant-loop-at
invariant-loop-at g l = LoadedTo g.F.Flash.state g.F.Wide.registers l.initial.store l.transactions l.jobs l.store l.at
