-- Numbers that the tables tell are in range.
use Rattle.slot_tables.proofs.Common.{◌≡◌, ℕ, ◌<◌, length, Option, Some, None, sym, ◌∙◌, inl, inr, arith, slice_get, cases_lt, get_or_past, got_within, slots_of, TablesState, IsTablesState, number_at, numbers_at}
use Rattle.std.proofs.Common.{IfSome}
use Rattle.std.proofs.lemmas.Option.{none-some}

module _ (k : TablesState) (h : IsTablesState k) where
  pub newest_below : (page : ℕ) (o : Option ℕ) → o ≡ slice_get (numbers_at k.pages page) 0 →
      IfSome o (λ x. x < slots_of k.shape)
  newest_below page None e = tt
  newest_below page (Some x) e =
      let r = h.versions.page page x (got_within (numbers_at k.pages page) 0 x (sym e)) in
      let all = h.records in
      elim (cases_lt x (length k.records)) [
        | inl low ↦ omega arith
        | inr past ↦ absurd (none-some r.0 (sym (get_or_past k.records x None past) ∙ r.1))
      ]

  pub waiting_below : (page : ℕ) (o : Option ℕ) → IfSome o (λ x. number_at k.waits x ≡ Some page) →
      IfSome o (λ x. x < slots_of k.shape)
  waiting_below page None e = tt
  waiting_below page (Some x) e =
      let all = h.waits in
      elim (cases_lt x (length k.waits)) [
        | inl low ↦ omega arith
        | inr past ↦ absurd (none-some page (sym (get_or_past k.waits x None past) ∙ e))
      ]
