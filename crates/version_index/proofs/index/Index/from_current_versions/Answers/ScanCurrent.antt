-- The current records of tables that are filled are among those of the list.
use Rattle.version_index.proofs.Common.{◌≡◌, ℕ, ◌<◌, false, List, length, Option, Some, sym, ap, ◌∙◌, subst, arith, Protocol, Shape, Rec, Found, cur, TablesState, record_at, number_at, rec_at, AreFilled, name_at}
use Rattle.std.specs.Prelude.{IsSomeAnd}
use Rattle.record_list.specs.Records as records
use Rattle.version_index.proofs.OfOpening.ScanDecided.{placed_by}

-- no current record discards its page
abbrev pub AreKept : TablesState → Type 0
AreKept k =
    (page x : ℕ) → page < length k.pages → number_at k.current page ≡ Some x →
    IsSomeAnd (rec_at k.records x) (λ r. r.discard ≡ false)

-- none does where none of the list does
pub filled_kept : (protocol : Protocol) (list : List Found) (its_shape : Shape) (logical : ℕ) (t : TablesState) →
    AreFilled protocol list its_shape logical t →
    ((j : ℕ) → j < length list → (records.record_at list j).discard ≡ false) → AreKept t
filled_kept protocol list its_shape logical t h none page x within is =
    let low : page < logical = subst (λ n. page < n) h.pages within in
    let p = placed_by list h.numbers (name_at page (cur protocol list logical page)) x
    (sym (h.current page low) ∙ is) in
    let whole = h.whole in
    let below = p.within in
    let own : record_at t.records x ≡ Some (records.record_at list p.place) =
    ap (record_at t.records) (sym p.number) ∙ h.numbered.each p.place (omega arith) in
    subst (λ (o : Option Rec). IsSomeAnd o (λ r. r.discard ≡ false)) (sym own) (none p.place p.within)
