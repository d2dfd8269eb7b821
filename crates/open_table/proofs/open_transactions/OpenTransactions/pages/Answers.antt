use Rattle.open_table.proofs.Common.{arith}
use Rattle.open_table.proofs.OfTransactions.OpenPages.{transactions_long, pages_read, pages_within}
use Rattle.open_table.proofs.open_transactions.OpenTransactions.pages.Goals as goal

pub index-requires : goal.index-requires
index-requires c =
    let requires = rw (← c.self.view_is) at c.requires in
    let count = transactions_long c.self.inside.all.items in
    omega arith

pub overflow_cast-result : goal.overflow_cast-result
overflow_cast-result c =
    let requires = rw (← c.self.view_is) at c.requires in
    let count = transactions_long c.self.inside.all.items in
    let few = pages_within c.self.inside.all.items c.args.at c.index.result.now (omega arith) c.index.ensures in
    omega (arith, c.self.invariant.rooms, c.self.invariant.few)

pub returns : goal.returns
returns c =
    let requires = rw (← c.self.view_is) at c.requires in
    let count = transactions_long c.self.inside.all.items in
    let many = pages_read c.self.inside.all.items c.args.at c.index.result.now (omega arith) c.index.ensures in
    rw (← c.self.view_is) (omega (arith, c.len.ensures))
