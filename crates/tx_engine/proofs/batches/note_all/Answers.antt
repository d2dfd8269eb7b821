use Rattle.tx_engine.proofs.Common.{get_or, arith, drop_more}
use Rattle.tx_engine.proofs.OfStepAll.Loading.{no_job, noted_all, noted_more, noted_here, noted_none}
use Rattle.tx_engine.proofs.batches.note_all.Goals as goal

pub loop-at-init : goal.loop-at-init
loop-at-init g c = noted_none c.args.store.now c.args.transactions.now c.args.jobs.now c.requires

pub note-requires : goal.note-requires
note-requires g c =
    (noted_here c.args.store.now c.loop-at.store c.args.transactions.now c.loop-at.transactions c.args.jobs.now
    c.loop-at.at c.loop-at.invariant
    (omega (arith, c.loop-at-test.true))).0

pub note_next-requires-clause-at : goal.note_next-requires-clause-at
note_next-requires-clause-at g c =
    (noted_here c.args.store.now c.loop-at.store c.args.transactions.now c.loop-at.transactions c.args.jobs.now
    c.loop-at.at c.loop-at.invariant
    (omega (arith, c.loop-at-test.true))).1

pub note_next-requires-clause-short : goal.note_next-requires-clause-short
note_next-requires-clause-short g c =
    (noted_here c.args.store.now c.loop-at.store c.args.transactions.now c.loop-at.transactions c.args.jobs.now
    c.loop-at.at c.loop-at.invariant
    (omega (arith, c.loop-at-test.true))).2

pub loop-at-preserved : goal.loop-at-preserved
loop-at-preserved g c =
    noted_more c.args.store.now c.loop-at.store c.note.new.self c.args.transactions.now c.loop-at.transactions
    c.note_next.new.transactions c.args.jobs.now c.loop-at.at
    (get_or c.args.jobs.now c.loop-at.at no_job) c.loop-at.invariant
    (drop_more c.args.jobs.now c.loop-at.at no_job (omega (arith, c.loop-at-test.true)))
    c.note.ensures c.note_next.ensures

pub returns : goal.returns
returns g c =
    let all = noted_all c.args.store.now c.loop-at.store c.args.transactions.now c.loop-at.transactions c.args.jobs.now
    c.loop-at.at c.loop-at.invariant
    (omega (arith, c.loop-at-test.false)) in
    record { stored = all.0; opens = all.1 }
