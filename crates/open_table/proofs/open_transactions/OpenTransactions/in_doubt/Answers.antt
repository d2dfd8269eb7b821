use Rattle.open_table.proofs.Common.{refl, is_doubted}
use Rattle.open_table.proofs.OfTransactions.OpenPages.{position_of_transaction}
use Rattle.open_table.proofs.open_transactions.OpenTransactions.in_doubt.Goals as goal

pub returns : goal.returns
returns c =
    rw (
      ← c.self.view_is,
      position_of_transaction (λ o. is_doubted o.entry.mark) (λ o. is_doubted o.mark) (λ o. refl)
          c.self.inside.all.items,
    )
    cc
