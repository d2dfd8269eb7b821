use Rattle.std.proofs.lemmas.List.{with_items_is}
use Rattle.lossy_store.proofs.Common.{◌≡◌, ℕ, ◌<◌, ◌++◌, length, take, get_or, refl, ap, ◌∙◌, byte_from}
use Rattle.std.proofs.Common.{drop}
use Rattle.lossy_store.proofs.Calls.{read_newest}
use Rattle.lossy_store.proofs.store.LossyStoreStore.read_all.Goals as goal

pub returns-clause-reads : goal.returns-clause-reads
returns-clause-reads c =
    let self = c.args.self.now in
    let bytes = c.lay_all.new.bytes in
    let durable_is : c.begin.new.self.durable.items ≡ self.durable.items = rw c.begin.ensures.durable refl in
    let writes_are : c.begin.new.self.writes.items ≡ self.writes.items = rw c.begin.ensures.writes refl in
    let start : c.deref_mut.result.now ≡ self.durable.items =
    c.deref_mut.ensures.value ∙ c.in-Ok.ensures.items ∙ c.as_slice.ensures.value ∙ durable_is in
    let list : c.as_slice-2.result.now ≡ self.writes.items = c.as_slice-2.ensures.value ∙ writes_are in
    let back : take c.in-Ok.bytes.len (bytes ++ drop (length bytes) c.in-Ok.bytes.items) ≡ bytes =
    with_items_is c.in-Ok.bytes bytes (c.lay_all.auto.bytes ∙ c.deref_mut.ensures.len) in
    let are
    : (k : ℕ) → k < length self.durable.items →
    get_or bytes k 0 ≡ byte_from self.writes.items k (get_or self.durable.items k 0) =
    λ k within. rw (← list, ← start) (c.lay_all.ensures k (rw start within)) in
    rw back (read_newest self.durable.items bytes self.writes.items self.copies
    (c.lay_all.auto.bytes ∙ ap length start) are)
