use Rattle.open_table.proofs.Common.{arith}
use Rattle.open_table.proofs.OfTransactions.OpenPages.{transactions_long, pages_read, discard_read}
use Rattle.open_table.proofs.open_transactions.OpenTransactions.discards.Goals as goal

pub index-requires : goal.index-requires
index-requires c =
    let at = rw (← c.self.view_is) at c.requires in
    let count = transactions_long c.self.inside.all.items in
    omega arith

pub index-requires-2 : goal.index-requires-2
index-requires-2 c =
    let at = rw (← c.self.view_is) at c.requires in
    let os = c.self.inside.all.items in
    let count = transactions_long os in
    let many = pages_read os c.args.at c.index.result.now (omega arith) c.index.ensures in
    omega arith

pub returns : goal.returns
returns c =
    let at = rw (← c.self.view_is) at c.requires in
    let os = c.self.inside.all.items in
    let count = transactions_long os in
    let many = pages_read os c.args.at c.index.result.now (omega arith) c.index.ensures in
    rw (← c.self.view_is) (discard_read os c.args.at c.args.place c.index.result.now c.index-2.result.now (omega arith)
    c.index.ensures
    (omega arith) c.index-2.ensures)
