use Rattle.tx_engine.proofs.Common.{◌≡◌, ℕ, Option, Some, None, refl, sym, ◌∙◌, position, is_doubted, TransactionState}
use Rattle.tx_engine.proofs.OfSettle.SettleExits.{none_doubted}
use Rattle.tx_engine.proofs.settling.position_in_doubt.Goals as goal

pub returns-in-Nothing : goal.returns-in-Nothing
returns-in-Nothing g c = of_place (position (λ (o : TransactionState). is_doubted o.entry.mark)
    c.args.transactions.now.all) refl
  where
    of_place : (p : Option ℕ) → position (λ (o : TransactionState). is_doubted o.entry.mark) c.args.transactions.now.all
        ≡ p → None ≡ p
    of_place None is = refl
    of_place (Some at) is = absurd
        (none_doubted g.F.Flash.state c.args.store.now c.args.transactions.now c.requires (sym c.unsure.ensures
        ∙ c.in-Nothing.is) at is)
