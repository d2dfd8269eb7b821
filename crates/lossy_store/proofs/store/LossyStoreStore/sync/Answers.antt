use Rattle.std.proofs.lemmas.List.{with_items_is}
use Rattle.lossy_store.proofs.Common.{◌≡◌, ℕ, ◌<◌, ◌++◌, length, take, get_or, refl, ap, ◌∙◌, byte_from}
use Rattle.std.proofs.Common.{drop}
use Rattle.lossy_store.proofs.Calls.{synced}
use Rattle.lossy_store.proofs.store.LossyStoreStore.sync.Goals as goal

pub returns-clause-syncs : goal.returns-clause-syncs
returns-clause-syncs c =
    let self = c.args.self.now in
    let bytes = c.lay_all.new.bytes in
    let durable_is : c.begin.new.self.durable.items ≡ self.durable.items = rw c.begin.ensures.durable refl in
    let writes_are : c.begin.new.self.writes.items ≡ self.writes.items = rw c.begin.ensures.writes refl in
    let start : c.deref_mut.result.now ≡ self.durable.items = c.deref_mut.ensures.value ∙ durable_is in
    let list : c.as_slice.result.now ≡ self.writes.items = c.as_slice.ensures.value ∙ writes_are in
    let back
    : take c.begin.new.self.durable.len (bytes ++ drop (length bytes) c.begin.new.self.durable.items) ≡ bytes =
    with_items_is c.begin.new.self.durable bytes (c.lay_all.auto.bytes ∙ c.deref_mut.ensures.len) in
    let are
    : (k : ℕ) → k < length self.durable.items →
    get_or bytes k 0 ≡ byte_from self.writes.items k (get_or self.durable.items k 0) =
    λ k within. rw (← list, ← start) (c.lay_all.ensures k (rw start within)) in
    rw (back, c.clear.ensures.items, c.begin.ensures.copies)
    (synced self.durable.items bytes self.writes.items self.copies (c.lay_all.auto.bytes ∙ ap length start) are)
