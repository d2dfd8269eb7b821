use Rattle.tx_engine.proofs.Common.{◌+◌, ap, refl, arith}
use Rattle.tx_engine.proofs.OfStepAll.Counting.{counted_more, counted_none}
use Rattle.tx_engine.proofs.batches.acknowledge_all.Goals as goal

pub loop-turn-init : goal.loop-turn-init
loop-turn-init g c = counted_none g.F.Flash.state g.R.CommitRule.protocol c.args.store.now c.args.transactions.now
    c.requires.ready

pub loop-turn-preserved : goal.loop-turn-preserved
loop-turn-preserved g c =
    counted_more g.F.Flash.state g.R.CommitRule.protocol c.args.store.now c.args.transactions.now c.loop-turn.store
    c.acknowledge_page.new.store c.loop-turn.transactions
    c.acknowledge_page.new.transactions c.loop-turn.gone c.loop-turn.turn _ c.args.moved c.loop-turn.invariant
    (omega (arith, c.loop-turn-test.true)) c.requires refl
    c.acknowledge_page.result c.acknowledge_page.ensures
    _ (ap (λ k. c.loop-turn.gone + k) c.one_if_done-gone.ensures)
