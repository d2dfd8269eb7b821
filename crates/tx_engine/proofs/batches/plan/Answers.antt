use Rattle.tx_engine.proofs.Common.{◌≡◌, ◌<◌, ◌+◌, length, sym, ap, ◌∙◌, subst, inl, inr, arith, Shape, next_slot_in, is_ready, record_due, name_due, transaction_at, StoreState, Job}
use Rattle.std.specs.Prelude.{◌++◌, ◌∷◌, [], true}
use Rattle.tx_engine.specs.BatchCalls.{is_due_clear}
use Rattle.tx_engine.proofs.OfStepAll.Chosen.{ready_now}
use Rattle.tx_engine.proofs.OfStepAll.JobsBeside.{next_low, next_place}
use Rattle.tx_engine.proofs.batches.plan.Invariants.Planning.{PlannedTo, planned_all, planned_full, planned_more, planned_stops, record_is}
use Rattle.tx_engine.proofs.batches.plan.Goals.{then-at-count-via-then-at-count, then-at-count-via-else-at-count+then-not-is_ready}
use Rattle.tx_engine.proofs.batches.plan.Goals as goal

pub returns-then-at-count-clause-jobs : goal.returns-then-at-count-clause-jobs
returns-then-at-count-clause-jobs g c =
    let S = c.args.store.now in
    let O = c.args.transactions.now in
    let at : length c.loop-die.jobs.items ≡ c.len-at.result = omega (arith, c.len-at.ensures) in
    planned_stops S.noted S.table O c.loop-die.jobs.items c.loop-die.die c.loop-die.invariant.1
    (elim c.then-at-count.branch [
      | then-at-count-via-then-at-count w ↦ inl (at ∙ w.if-at-count.true ∙ c.count.ensures.count)
      | then-at-count-via-else-at-count+then-not-is_ready w ↦ inr (
          ap (λ k. is_ready S.noted (transaction_at O k)) at
          ∙ ready_now g.F.Flash.state g.R.CommitRule.protocol S O c.requires.ready c.len-at.result
          (let within = c.loop-die.invariant.1.within in
          omega (arith, at, within, w.if-at-count.false, c.count.ensures.count))
          ∙ ap (λ (T : StoreState _). is_due_clear T.noted (transaction_at O c.len-at.result))
          (sym (c.slot_in.ensures.stays ∙ c.loop-die.invariant.0))
          ∙ sym w.is_ready.ensures
          ∙ w.if-not-is_ready.true)
    ])

pub next_record-rec-requires-clause-next : goal.next_record-rec-requires-clause-next
next_record-rec-requires-clause-next g c =
    let within = c.loop-die.invariant.1.within in
    next_place g.F.Flash.state c.args.store.now c.args.transactions.now c.requires.ready.stands c.len-at.result
    (omega (arith, c.len-at.ensures, within, c.if-at-count.false, c.count.ensures.count))

pub next_record-rec-requires-clause-page : goal.next_record-rec-requires-clause-page
next_record-rec-requires-clause-page g c =
    let within = c.loop-die.invariant.1.within in
    let low = next_low g.F.Flash.state c.args.store.now c.args.transactions.now c.requires.ready.stands c.len-at.result
    (omega (arith, c.len-at.ensures, within, c.if-at-count.false, c.count.ensures.count)) in
    subst (λ (T : StoreState _). (name_due c.args.transactions.now c.len-at.result).page < T.noted.config.logical)
    (sym (c.slot_in.ensures.stays ∙ c.loop-die.invariant.0)) low

pub loop-die-preserved-in_default : goal.loop-die-preserved-in_default
loop-die-preserved-in_default g c =
    let S = c.args.store.now in
    let inv = c.loop-die.invariant in
    let low : c.loop-die.die < S.table.shape.dies =
    (let shape = ap (λ (sh : Shape). sh.dies) c.requires.ready.stands.matches.blocks in
    omega (arith, c.loop-die-test.true, c.dies-die-end.ensures)) in
    let slot : c.slot_in.result ≡ next_slot_in S.table c.loop-die.die =
    c.slot_in.ensures.slot ∙ ap (λ (T : StoreState _). next_slot_in T.table c.loop-die.die) inv.0 in (
      c.slot_in.ensures.stays ∙ inv.0,
      planned_full S.noted S.table c.args.transactions.now c.loop-die.jobs.items c.loop-die.die inv.1 low (sym slot
          ∙ c.in_default.is),
      inv.2,
    )

pub loop-die-preserved : goal.loop-die-preserved
loop-die-preserved g c =
    let S = c.args.store.now in
    let O = c.args.transactions.now in
    let inv = c.loop-die.invariant in
    let stays = c.slot_in.ensures.stays ∙ inv.0 in
    let low : c.loop-die.die < S.table.shape.dies =
    (let shape = ap (λ (sh : Shape). sh.dies) c.requires.ready.stands.matches.blocks in
    omega (arith, c.loop-die-test.true, c.dies-die-end.ensures)) in
    let slot : c.slot_in.result ≡ next_slot_in S.table c.loop-die.die =
    c.slot_in.ensures.slot ∙ ap (λ (T : StoreState _). next_slot_in T.table c.loop-die.die) inv.0 in
    let at : length c.loop-die.jobs.items ≡ c.len-at.result = omega (arith, c.len-at.ensures) in
    let less : length c.loop-die.jobs.items < length O.all =
    (let within = inv.1.within in omega (arith, at, within, c.if-at-count.false, c.count.ensures.count)) in
    let passes : is_ready S.noted (transaction_at O (length c.loop-die.jobs.items)) ≡ true =
    ap (λ k. is_ready S.noted (transaction_at O k)) at
    ∙ ready_now g.F.Flash.state g.R.CommitRule.protocol S O c.requires.ready c.len-at.result (omega (arith, at, less))
    ∙ ap (λ (T : StoreState _). is_due_clear T.noted (transaction_at O c.len-at.result)) (sym stays)
    ∙ sym c.is_ready.ensures ∙ c.if-not-is_ready.false in
    let job : Job = record { slot = c.in-Some.slot; rec = c.next_record-rec.result } in
    let more : c.push.new.self.items ≡ c.loop-die.jobs.items ++ job ∷ [] =
    rw c.unwrap.ensures at c.push.ensures.items in
    let rec : c.next_record-rec.result ≡ record_due S.noted (transaction_at O (length c.loop-die.jobs.items)) =
    record_is c.slot_in.new.self.noted O c.len-at.result c.next_record-rec.result c.next_record-rec.ensures
    ∙ ap (λ (T : StoreState _). record_due T.noted (transaction_at O c.len-at.result)) stays
    ∙ ap (λ k. record_due S.noted (transaction_at O k)) (sym at) in (
      stays,
      subst (λ items. PlannedTo S.noted S.table O items (c.loop-die.die + 1)) (sym more)
          (planned_more S.noted S.table O c.loop-die.jobs.items c.loop-die.die inv.1 c.in-Some.slot job low less
          (sym slot ∙ c.in-Some.is) passes
          (ap (λ r. record { slot = c.in-Some.slot; rec = r }) rec)),
      (let grown = c.push.ensures.capacity in let was = inv.2 in omega (arith, grown, was)),
    )

pub returns-clause-jobs : goal.returns-clause-jobs
returns-clause-jobs g c =
    let S = c.args.store.now in
    planned_all S.noted S.table c.args.transactions.now c.loop-die.jobs.items c.loop-die.die c.loop-die.invariant.1
    (let shape = ap (λ (sh : Shape). sh.dies) c.requires.ready.stands.matches.blocks in
    omega (arith, c.loop-die-test.false, c.dies-die-end.ensures))
