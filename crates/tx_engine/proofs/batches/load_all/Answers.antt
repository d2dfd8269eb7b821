use Rattle.tx_engine.proofs.Common.{get_or, ap, sym, ◌∙◌, subst, arith, bytes_in, HasPlace, transaction_at, write_at}
use Rattle.tx_engine.proofs.OfStepAll.Loading.{can_load_here, drop_here, loaded_all, loaded_more, loaded_none, no_job, place_here}
use Rattle.tx_engine.proofs.batches.load_all.Goals as goal

pub loop-at-init : goal.loop-at-init
loop-at-init g c =
    loaded_none g.F.Flash.state g.F.Wide.registers c.clear_registers.new.self c.args.transactions.now c.args.jobs.now
    c.args.store.now c.requires
    c.clear_registers.ensures c.loads_come_in_order.ensures.none

pub done_count-requires : goal.done_count-requires
done_count-requires g c =
    (place_here g.F.Flash.state g.F.Wide.registers c.clear_registers.new.self c.args.transactions.now c.args.jobs.now
    c.loop-at.store c.loop-at.at
    c.loop-at.invariant
    (omega (arith, c.loop-at-test.true))).exists

pub bytes-requires : goal.bytes-requires
bytes-requires g c =
    subst (HasPlace c.args.transactions.now c.loop-at.at) (sym c.done_count.ensures)
    (place_here g.F.Flash.state g.F.Wide.registers c.clear_registers.new.self c.args.transactions.now c.args.jobs.now
    c.loop-at.store c.loop-at.at
    c.loop-at.invariant
    (omega (arith, c.loop-at-test.true)))

pub load-requires : goal.load-requires
load-requires g c =
    can_load_here g.F.Flash.state g.F.Wide.registers c.clear_registers.new.self c.args.transactions.now c.args.jobs.now
    c.loop-at.store c.loop-at.at
    c.loop-at.invariant
    (omega (arith, c.loop-at-test.true)) c.bytes.result.now
    (c.bytes.ensures ∙ ap (λ k. bytes_in c.args.transactions.now.page_bytes
    (write_at (transaction_at c.args.transactions.now c.loop-at.at).entry k)) c.done_count.ensures)

pub loop-at-preserved : goal.loop-at-preserved
loop-at-preserved g c =
    loaded_more g.F.Flash.state g.F.Wide.registers c.clear_registers.new.self c.args.transactions.now c.args.jobs.now
    c.loop-at.store c.load.new.self c.loop-at.at
    (get_or c.args.jobs.now c.loop-at.at no_job) c.bytes.result.now c.loop-at.invariant
    (drop_here g.F.Flash.state g.F.Wide.registers c.clear_registers.new.self c.args.transactions.now c.args.jobs.now
    c.loop-at.store c.loop-at.at
    c.loop-at.invariant
    (omega (arith, c.loop-at-test.true)))
    (c.bytes.ensures ∙ ap (λ k. bytes_in c.args.transactions.now.page_bytes
    (write_at (transaction_at c.args.transactions.now c.loop-at.at).entry k)) c.done_count.ensures)
    c.load.ensures c.loads_come_in_order.ensures.more c.loads_come_in_order.ensures.behind

pub returns : goal.returns
returns g c =
    loaded_all g.F.Flash.state g.F.Wide.registers c.clear_registers.new.self c.args.transactions.now c.args.jobs.now
    c.args.store.now c.loop-at.store c.loop-at.at
    c.clear_registers.ensures c.loop-at.invariant (omega (arith, c.loop-at-test.false))
