use Rattle.open_table.proofs.Common.{◌==◌, refl, has_tag}
use Rattle.open_table.proofs.OfTransactions.OpenPages.{position_of_transaction}
use Rattle.open_table.proofs.open_transactions.OpenTransactions.position.Goals as goal

pub returns : goal.returns
returns c =
    rw (
      ← c.self.view_is,
      position_of_transaction (λ o. has_tag c.args.tag o.entry) (λ o. o.tag == c.args.tag)
          (λ o. refl) c.self.inside.all.items,
    )
    cc
