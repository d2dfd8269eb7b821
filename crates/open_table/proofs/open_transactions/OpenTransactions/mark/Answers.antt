use Rattle.open_table.proofs.Common.{sym, ap, arith}
use Rattle.open_table.proofs.OfTransactions.OpenPages.{transactions_long, transaction_read}
use Rattle.open_table.proofs.open_transactions.OpenTransactions.mark.Goals as goal

pub index-requires : goal.index-requires
index-requires c =
    let requires = rw (← c.self.view_is) at c.requires in
    let count = transactions_long c.self.inside.all.items in
    omega arith

pub returns : goal.returns
returns c =
    let requires = rw (← c.self.view_is) at c.requires in
    let count = transactions_long c.self.inside.all.items in
    rw (← c.self.view_is)
    (sym (ap (λ o. o.entry.mark) (transaction_read c.self.inside.all.items c.args.at c.index.result.now (omega arith)
    c.index.ensures)))
