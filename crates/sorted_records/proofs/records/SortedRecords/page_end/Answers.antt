-- The last record is of the highest page.
use Rattle.sorted_records.proofs.Common.{ℕ, ◌+◌, ◌-◌, ◌<◌, length, nothing, record_at, subst, ◌∙◌, get_or_default, arith}
use Rattle.sorted_records.proofs.OfSort.Order.{page_rises}
use Rattle.sorted_records.proofs.records.SortedRecords.page_end.Goals as goal

pub returns : goal.returns
returns c =
    let l = c.self.inside.records.items in
    let some = c.if-count-eq0.false in
    let size = c.len-count.ensures in
    let long = c.self.inside.records.ok.0 in
    let last = (record_at l (c.len-count.result - 1)).page + 1 in
    let item = c.index.ensures
    ∙ get_or_default l (c.len-count.result - 1) c.index.result.now nothing (omega arith) in
    rw item (subst (λ m. (k : ℕ) → k < length m → (record_at m k).page < last) c.self.view_is (λ k low.
    let rises = page_rises l c.self.invariant.order k (c.len-count.result - 1) nothing (omega arith) (omega arith) in
    omega arith))
