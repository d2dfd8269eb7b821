use Rattle.open_table.proofs.Common.{refl, arith, with_done}
use Rattle.open_table.proofs.OfTransactions.OpenChanges.{kept_with, table_with}
use Rattle.open_table.proofs.OfTransactions.OpenPages.{transactions_long}
use Rattle.open_table.proofs.open_transactions.OpenTransactions.set_done_count.Goals as goal

pub index_mut-requires : goal.index_mut-requires
index_mut-requires c =
    let requires = rw (← c.self.view_is) at c.requires in
    let count = transactions_long c.self.inside.all.items in
    omega arith

pub invariant_of-self : goal.invariant_of-self
invariant_of-self c =
    let requires = rw (← c.self.view_is) at c.requires in
    let count = transactions_long c.self.inside.all.items in
    let x = c.index_mut.result.now in
    kept_with c.self.inside c.args.at x (record x { done = c.args.done }) c.self.invariant (omega arith)
    c.index_mut.ensures.value refl refl

pub returns : goal.returns
returns c =
    let requires = rw (← c.self.view_is) at c.requires in
    let count = transactions_long c.self.inside.all.items in
    let x = c.index_mut.result.now in
    rw (← c.self.view_is)
    (table_with c.self.inside c.args.at x (record x { done = c.args.done }) (λ o. with_done o c.args.done) (omega arith)
    c.index_mut.ensures.value refl)
