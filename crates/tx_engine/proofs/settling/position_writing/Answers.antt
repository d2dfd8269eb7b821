use Rattle.tx_engine.proofs.Common.{sym, ap, ◌∙◌, arith, eq-eqb, Link, no_transaction, transaction_at, name_at, is_writing}
use Rattle.list_lemmas.proofs.Positions.{position-at, position-none}
use Rattle.tx_engine.proofs.settling.position_writing.Goals as goal

pub returns-then-name-page : goal.returns-then-name-page
returns-then-name-page c =
    let its = transaction_at c.args.transactions.now c.loop-at.at in
    sym (position-at (is_writing c.args.page) c.args.transactions.now.all no_transaction c.loop-at.at
    (omega (arith, c.count-at-end.ensures.count))
    c.loop-at.invariant
    (eq-eqb (name_at its.naming its.entry.done).page c.args.page
    (ap (λ k. (name_at its.naming k).page) (sym c.done_count.ensures) ∙ ap (λ (a : Link). a.page) (sym c.name.ensures)
    ∙ c.if-name-page.true)))

pub returns : goal.returns
returns c =
    sym (position-none (is_writing c.args.page) c.args.transactions.now.all no_transaction
    (λ k less. c.loop-at.invariant k (omega (arith, c.count-at-end.ensures.count))))
