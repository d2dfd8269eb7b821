-- Marks that are made record by record.
use Rattle.scan_recovery.proofs.Common.{◌≡◌, ℕ, ◌+◌, ◌<◌, Bool, true, false, ◌==◌, ◌||◌, List, length, get_or, take, sym, ap, ◌∙◌, inl, inr, arith, eq-eqb, list_any, cases_eq, Found, nothing}
use Rattle.std.proofs.Common.{replicate}
use Rattle.std.proofs.Common.{ne_eqb}
use Rattle.std.specs.List.{slice_set}
use Rattle.std.proofs.lemmas.Bool.{or_right}
use Rattle.std.proofs.lemmas.List.{length-set, get_or-set_same, get_or-set_other, get_or-replicate, length-replicate}
use Rattle.std.proofs.lemmas.List.Folds.{list_any_more}
use Rattle.std.proofs.Math.Bool.{or-false}
use Rattle.scan_recovery.specs.Removable.{AreMarked}

module _ (count : ℕ) (test : Found → ℕ → Bool) (list : List Found) where
  -- none is marked at first
  pub marked_none : (marks : List Bool) → marks ≡ replicate count false → AreMarked count test (take 0 list) marks
  marked_none marks is = record {
    size = ap length is ∙ length-replicate count false;
    each = λ n d within. ap (λ m. get_or m n d) is ∙ get_or-replicate count n false d within;
  }

  module _ (marks : List Bool) (at : ℕ) (within : at < length list)
      (before : AreMarked count test (take at list) marks) where
    -- a record that passes with none leaves the marks
    pub marked_same : ((n : ℕ) → n < count → test (get_or list at nothing) n ≡ false) →
        AreMarked count test (take (at + 1) list) marks
    marked_same none = record {
      size = before.size;
      each = λ n d low.
          before.each n d low
          ∙ sym (or-false (list_any (λ f. test f n) (take at list)))
          ∙ ap (λ b. list_any (λ f. test f n) (take at list) || b) (sym (none n low))
          ∙ sym (list_any_more (λ f. test f n) list at nothing within);
    }

    -- one that passes with one number alone marks this
    pub marked_more : (place : ℕ) → ((n : ℕ) → n < count → test (get_or list at nothing) n ≡ (place == n)) →
        AreMarked count test (take (at + 1) list) (slice_set marks place true)
    marked_more place one = record {
      size = length-set marks place true ∙ before.size;
      each = λ n d low.
          step n d low ∙ ap (λ b. list_any (λ f. test f n) (take at list) || b) (sym (one n low))
          ∙ sym (list_any_more (λ f. test f n) list at nothing within);
    }
      where
        step : (n : ℕ) (d : Bool) → n < count → get_or (slice_set marks place true) n d
            ≡ (list_any (λ f. test f n) (take at list) || (place == n))
        step n d low = elim (cases_eq place n) [
          | inl e ↦ (
              let here : place < length marks = (let s = before.size in omega arith) in
              ap (λ k. get_or (slice_set marks place true) k d) (sym e) ∙ get_or-set_same marks place true d here
              ∙ sym (or_right (list_any (λ f. test f n) (take at list)) (place == n) (eq-eqb place n e)))
          | inr other ↦
              get_or-set_other marks place n true d (λ e. other (sym e)) ∙ before.each n d low
              ∙ sym (or-false (list_any (λ f. test f n) (take at list)))
              ∙ ap (λ b. list_any (λ f. test f n) (take at list) || b) (sym (ne_eqb place n other))
        ]
