use Rattle.tx_engine.proofs.Common.{◌≢◌, [], sym, ◌∙◌, subst, arith, by_err, CanAcknowledgeAll, CanWriteAll, StepsTogether, StoreState}
use Rattle.tx_engine.specs.Calls.{CanAdvance}
use Rattle.tx_engine.proofs.OfStepAll.Chosen.{chosen_can}
use Rattle.tx_engine.proofs.OfStepAll.Moving.{moved_broken, moved_chosen, some_by, written_counts}
use Rattle.tx_engine.proofs.OfStepAll.Nexts.{are_due}
use Rattle.tx_engine.proofs.batches.step_together.Goals as goal

pub step_first-requires : goal.step_first-requires
step_first-requires g c =
    subst (λ (T : StoreState _). CanAdvance g.F.Flash.state g.R.CommitRule.protocol T c.args.transactions.now 0)
    (sym c.plan.ensures.stays)
    (record {
      ready = c.requires.can.ready;
      at = omega (arith, c.count.ensures.count, c.if-count-eq0.false);
      size = c.requires.can.size;
    })

pub write_all-requires : goal.write_all-requires
write_all-requires g c =
    let state = g.F.Flash.state in let p = g.R.CommitRule.protocol in let S = c.args.store.now in
    let O = c.args.transactions.now in
    let jobs = c.deref.result.now in
    let its = c.deref.ensures.value ∙ c.plan.ensures.jobs in
    let some : jobs ≢ [] = some_by jobs _ c.deref.ensures.len (sym c.is_empty.ensures ∙ c.if-is_empty.false) in
    let can : CanWriteAll state p c.plan.new.store O jobs = subst (λ (T : StoreState _). CanWriteAll state p T O jobs)
    (sym c.plan.ensures.stays)
    (subst (CanWriteAll state p S O) (sym its) (chosen_can state p S O c.requires.can.ready c.requires.can.size
    (λ is. some (its ∙ is)))) in
    can

pub returns-in_err-write_all-clause-moves : goal.returns-in_err-write_all-clause-moves
returns-in_err-write_all-clause-moves g c =
    let state = g.F.Flash.state in let p = g.R.CommitRule.protocol in let S = c.args.store.now in
    let O = c.args.transactions.now in
    let jobs = c.deref.result.now in
    let its = c.deref.ensures.value ∙ c.plan.ensures.jobs in
    let some : jobs ≢ [] = some_by jobs _ c.deref.ensures.len (sym c.is_empty.ensures ∙ c.if-is_empty.false) in
    by_err c.from_residual.result (StepsTogether state S c.write_all.new.store O c.write_all.new.transactions)
    c.from_residual.ensures.0 (λ y.
    moved_broken state S c.plan.new.store c.write_all.new.store O c.write_all.new.transactions jobs
    c.plan.ensures.stays its some
    (omega (arith, c.count.ensures.count, c.if-count-eq0.false)) y c.in_err-write_all.ensures.broken
    c.in_err-write_all.ensures.kept)

pub overflow_cast-len : goal.overflow_cast-len
overflow_cast-len g c =
    let state = g.F.Flash.state in let p = g.R.CommitRule.protocol in let S = c.args.store.now in
    let O = c.args.transactions.now in
    let jobs = c.deref.result.now in
    let its = c.deref.ensures.value ∙ c.plan.ensures.jobs in
    let some : jobs ≢ [] = some_by jobs _ c.deref.ensures.len (sym c.is_empty.ensures ∙ c.if-is_empty.false) in
    let can : CanWriteAll state p c.plan.new.store O jobs = subst (λ (T : StoreState _). CanWriteAll state p T O jobs)
    (sym c.plan.ensures.stays)
    (subst (CanWriteAll state p S O) (sym its) (chosen_can state p S O c.requires.can.ready c.requires.can.size
    (λ is. some (its ∙ is)))) in
    let few = (are_due c.plan.new.store.noted c.plan.new.store.table O jobs can.due).within in
    omega (arith, few, c.len.ensures, c.deref.ensures.len, c.count.ensures.count, c.count.type_inv)

pub acknowledge_all-requires : goal.acknowledge_all-requires
acknowledge_all-requires g c =
    let state = g.F.Flash.state in let p = g.R.CommitRule.protocol in let S = c.args.store.now in
    let O = c.args.transactions.now in
    let jobs = c.deref.result.now in
    let its = c.deref.ensures.value ∙ c.plan.ensures.jobs in
    let some : jobs ≢ [] = some_by jobs _ c.deref.ensures.len (sym c.is_empty.ensures ∙ c.if-is_empty.false) in
    let can : CanWriteAll state p c.plan.new.store O jobs = subst (λ (T : StoreState _). CanWriteAll state p T O jobs)
    (sym c.plan.ensures.stays)
    (subst (CanWriteAll state p S O) (sym its) (chosen_can state p S O c.requires.can.ready c.requires.can.size
    (λ is. some (its ∙ is)))) in
    subst (CanAcknowledgeAll state p c.write_all.new.store c.write_all.new.transactions) (c.deref.ensures.len
    ∙ sym c.len.ensures)
    (written_counts state p c.plan.new.store c.write_all.new.store O c.write_all.new.transactions jobs can
    c.in_ok-write_all.ensures.written)

pub returns-clause-moves : goal.returns-clause-moves
returns-clause-moves g c =
    let state = g.F.Flash.state in let p = g.R.CommitRule.protocol in let S = c.args.store.now in
    let O = c.args.transactions.now in
    let jobs = c.deref.result.now in
    let its = c.deref.ensures.value ∙ c.plan.ensures.jobs in
    let some : jobs ≢ [] = some_by jobs _ c.deref.ensures.len (sym c.is_empty.ensures ∙ c.if-is_empty.false) in
    moved_chosen state S c.plan.new.store c.write_all.new.store O c.write_all.new.transactions jobs
    c.plan.ensures.stays its some
    (omega (arith, c.count.ensures.count, c.if-count-eq0.false)) c.acknowledge_all.new.store c.acknowledge_all.new.transactions
    c.len.result c.acknowledge_all.result
    c.in_ok-write_all.ensures.written c.acknowledge_all.ensures (c.len.ensures ∙ sym c.deref.ensures.len)
