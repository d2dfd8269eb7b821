use Rattle.tx_engine.proofs.Common.{sym, ap, ◌∙◌, subst, arith, Link, IndexState, HasPlace, transaction_at, name_at}
use Rattle.tx_engine.proofs.OfStepAll.JobsBeside.{next_low, next_place}
use Rattle.tx_engine.proofs.batches.is_ready.Goals as goal

pub name-name-requires : goal.name-name-requires
name-name-requires g c =
    subst (HasPlace c.args.transactions.now c.args.at) (sym c.done_count.ensures)
    (next_place g.F.Flash.state c.args.store.now c.args.transactions.now c.requires.ready.stands c.args.at
    c.requires.at)

pub must_go-requires : goal.must_go-requires
must_go-requires g c =
    let low = next_low g.F.Flash.state c.args.store.now c.args.transactions.now c.requires.ready.stands c.args.at
    c.requires.at in
    omega (
      arith,
      low,
      ap (λ (a : Link). a.page) (c.name-name.ensures
          ∙ ap (name_at (transaction_at c.args.transactions.now c.args.at).naming) c.done_count.ensures),
      ap (λ (n : IndexState). n.config.logical) c.index.ensures,
    )
