mod Advancing
use Rattle.tx_engine.proofs.Common.{sym, ◌∙◌, by_err, AdvancesTo}
use Rattle.tx_engine.proofs.OfStep.AdvanceExits.{not_due_ready}
use Rattle.tx_engine.proofs.advancing.advance.Answers.Advancing.{must_program_at, counted_on, advance_breaks, counts_then, exists_then, ready_then, advanced}
use Rattle.tx_engine.proofs.advancing.advance.Goals as goal

pub acknowledge_page-requires : goal.acknowledge_page-requires
acknowledge_page-requires g c = record {
  ready = c.requires.ready;
  at = c.requires.at;
  counts = not_due_ready g.F.Flash.state c.args.store.now c.args.transactions.now c.args.at c.requires.ready.stands
      c.requires.ready.sure c.requires.at
      (sym c.must_program.ensures ∙ c.if-not-must_program.true);
}

pub returns-then-not-must_program : goal.returns-then-not-must_program
returns-then-not-must_program g c =
    counted_on g.F.Flash.state g.R.CommitRule.protocol c.args.store.now c.args.transactions.now c.args.at
    c.requires.ready c.requires.at
    (sym c.must_program.ensures ∙ c.if-not-must_program.true)
    c.acknowledge_page.new.store c.acknowledge_page.new.transactions c.acknowledge_page.result
    c.acknowledge_page.ensures

pub write_next-requires : goal.write_next-requires
write_next-requires g c = record {
  ready = c.requires.ready;
  due = must_program_at g.F.Flash.state g.R.CommitRule.protocol c.args.store.now c.args.transactions.now c.args.at
      c.requires.ready c.requires.at
      (sym c.must_program.ensures ∙ c.if-not-must_program.false);
  size = c.requires.size;
}

pub returns-in_err-write_next : goal.returns-in_err-write_next
returns-in_err-write_next g c =
    let S = c.args.store.now in let O = c.args.transactions.now in
    by_err c.from_residual.result (AdvancesTo g.F.Flash.state S c.write_next.new.store O c.write_next.new.transactions
    c.args.at) c.from_residual.ensures.0 (λ y.
    advance_breaks g.F.Flash.state g.R.CommitRule.protocol S O c.args.at c.requires.ready c.requires.at
    (sym c.must_program.ensures ∙ c.if-not-must_program.false)
    c.write_next.new.store c.write_next.new.transactions _ y c.in_err-write_next.ensures)

pub acknowledge_page-requires-2 : goal.acknowledge_page-requires-2
acknowledge_page-requires-2 g c = record {
  ready = ready_then g.F.Flash.state g.R.CommitRule.protocol c.args.store.now c.args.transactions.now c.args.at
      c.requires.ready c.requires.at
      (sym c.must_program.ensures ∙ c.if-not-must_program.false)
      c.write_next.new.store c.write_next.new.transactions c.in_ok-write_next.ensures;
  at = exists_then g.F.Flash.state g.R.CommitRule.protocol c.args.store.now c.args.transactions.now c.args.at
      c.requires.ready c.requires.at
      (sym c.must_program.ensures ∙ c.if-not-must_program.false)
      c.write_next.new.store c.write_next.new.transactions c.in_ok-write_next.ensures;
  counts = counts_then g.F.Flash.state g.R.CommitRule.protocol c.args.store.now c.args.transactions.now c.args.at
      c.requires.ready c.requires.at
      (sym c.must_program.ensures ∙ c.if-not-must_program.false)
      c.write_next.new.store c.write_next.new.transactions c.in_ok-write_next.ensures;
}

pub returns : goal.returns
returns g c =
    advanced g.F.Flash.state g.R.CommitRule.protocol c.args.store.now c.args.transactions.now c.args.at
    c.requires.ready c.requires.at
    (sym c.must_program.ensures ∙ c.if-not-must_program.false)
    c.write_next.new.store c.write_next.new.transactions c.in_ok-write_next.ensures c.acknowledge_page-2.new.store
    c.acknowledge_page-2.new.transactions c.acknowledge_page-2.result
    c.acknowledge_page-2.ensures
