use Rattle.tx_engine.proofs.OfStepAll.Counting.{CountedTo}
use Rattle.tx_engine.proofs.batches.acknowledge_all.Given as goal

abbrev pub invariant-loop-turn : goal.invariant-loop-turn
invariant-loop-turn g l =
    CountedTo g.F.Flash.state g.R.CommitRule.protocol l.initial.store l.store l.initial.transactions
    l.transactions l.gone l.turn
