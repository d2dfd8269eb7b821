use Rattle.tx_engine.proofs.Common.{List, ℕ, sym, ap, ◌∙◌, subst, bytes_in, HasPlace, transaction_at, write_at, CanWrite, WritesOwn, store_in}
use Rattle.tx_engine.proofs.writing.program.Goals as goal

pub bytes-requires : goal.bytes-requires
bytes-requires g c = subst (HasPlace c.args.transactions.now c.args.at) (sym c.done_count.ensures) c.requires.next

pub write-requires-clause-can : goal.write-requires-clause-can
write-requires-clause-can g c =
    let O = c.args.transactions.now in
    let is = c.bytes.ensures ∙ ap (λ k. bytes_in O.page_bytes (write_at (transaction_at O c.args.at).entry k))
    c.done_count.ensures in
    subst (CanWrite (store_in g.F.Flash.state c.args.store.now) c.args.slot c.args.rec) (sym is) c.requires.can

pub returns : goal.returns
returns g c =
    let O = c.args.transactions.now in
    let is = c.bytes.ensures ∙ ap (λ k. bytes_in O.page_bytes (write_at (transaction_at O c.args.at).entry k))
    c.done_count.ensures in
    subst (λ (b : List ℕ). WritesOwn (store_in g.F.Flash.state c.args.store.now)
    (store_in g.F.Flash.state c.write.new.self) c.args.slot c.args.rec b
    c.write.result) is c.write.ensures
