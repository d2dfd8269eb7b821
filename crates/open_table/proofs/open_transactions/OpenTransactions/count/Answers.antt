use Rattle.open_table.proofs.Common.{arith}
use Rattle.open_table.proofs.OfTransactions.OpenPages.{transactions_long, kept_is_table}
use Rattle.open_table.proofs.open_transactions.OpenTransactions.count.Goals as goal

pub overflow_cast-result : goal.overflow_cast-result
overflow_cast-result c = omega (arith, c.self.invariant.lists, c.self.invariant.few)

pub returns-clause-count : goal.returns-clause-count
returns-clause-count c =
    let count = transactions_long c.self.inside.all.items in
    rw (← c.self.view_is) (omega arith)

pub returns-clause-kept : goal.returns-clause-kept
returns-clause-kept c = rw (← c.self.view_is) (kept_is_table c.self.inside c.self.invariant)
