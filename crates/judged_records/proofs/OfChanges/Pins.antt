-- The pinned names, by the table of pins.
use Rattle.judged_records.proofs.Common.{◌≡◌, ℕ, zero, suc, ◌+◌, ◌<◌, ◌≤◌, Bool, true, false, ◌&&◌, ◌||◌, eqb, List, [], ◌∷◌, length, get_or, Option, Some, None, refl, sym, ap, ◌∙◌, inl, inr, arith, ne_eqb, eq-eqb, cons_option, cases_eq, cond-true, cond-false, Link, Rec, has_name}
use Rattle.std.specs.List.{list_any}
use Rattle.judged_records.specs.IndexState.{pinned_at, pinned_names}
use Rattle.judged_records.proofs.OfNotes.BaseTables.{given}

abbrev pub numbered_pin : ℕ × ℕ → Option Link
numbered_pin (page, version) = pinned_at page version

-- no page from the n-th on is the record's
none_behind : (r : Rec) (n : ℕ) (pins : List ℕ) → r.page < n →
    list_any (λ name. has_name name r) (given numbered_pin n pins) ≡ false
none_behind r n [] behind = refl
none_behind r n (v ∷ vs) behind = elim (cases_eq v 0) [
  | inl none ↦ ap (λ o. list_any (λ name. has_name name r) (cons_option o (given numbered_pin (n + 1) vs)))
      (cond-true (eqb v 0) None (Some (record { page = n; version = v })) (eq-eqb v 0 none))
      ∙ none_behind r (n + 1) vs (omega arith)
  | inr some ↦ (
      let off : eqb r.page n ≡ false = ne_eqb r.page n (λ e. absurd (omega arith)) in
      ap (λ o. list_any (λ name. has_name name r) (cons_option o (given numbered_pin (n + 1) vs)))
      (cond-false (eqb v 0) None (Some (record { page = n; version = v })) (ne_eqb v 0 some))
      ∙ ap (λ b. (b && eqb r.version v) || list_any (λ name. has_name name r) (given numbered_pin (n + 1) vs)) off
      ∙ none_behind r (n + 1) vs (omega arith))
]

pinned_from : (r : Rec) (n i : ℕ) (pins : List ℕ) → 1 ≤ r.version → i < length pins → r.page ≡ n + i →
    list_any (λ name. has_name name r) (given numbered_pin n pins) ≡ eqb r.version (get_or pins i 0)
pinned_from r n i [] positive within at = absurd (omega arith)
pinned_from r n zero (v ∷ vs) positive within at = elim (cases_eq v 0) [
  | inl none ↦ ap (λ o. list_any (λ name. has_name name r) (cons_option o (given numbered_pin (n + 1) vs)))
      (cond-true (eqb v 0) None (Some (record { page = n; version = v })) (eq-eqb v 0 none))
      ∙ none_behind r (n + 1) vs (omega arith) ∙ sym (ne_eqb r.version v (λ e. absurd (omega arith)))
  | inr some ↦ (
      let same : eqb r.page n ≡ true = eq-eqb r.page n (omega arith) in
      ap (λ o. list_any (λ name. has_name name r) (cons_option o (given numbered_pin (n + 1) vs)))
      (cond-false (eqb v 0) None (Some (record { page = n; version = v })) (ne_eqb v 0 some))
      ∙ ap (λ b. (b && eqb r.version v) || list_any (λ name. has_name name r) (given numbered_pin (n + 1) vs)) same
      ∙ ap (λ b. eqb r.version v || b) (none_behind r (n + 1) vs (omega arith)) ∙ or_none (eqb r.version v))
]
  where
    or_none : (b : Bool) → (b || false) ≡ b
    or_none true = refl
    or_none false = refl
pinned_from r n (suc i) (v ∷ vs) positive within at = elim (cases_eq v 0) [
  | inl none ↦ ap (λ o. list_any (λ name. has_name name r) (cons_option o (given numbered_pin (n + 1) vs)))
      (cond-true (eqb v 0) None (Some (record { page = n; version = v })) (eq-eqb v 0 none))
      ∙ pinned_from r (n + 1) i vs positive (omega arith) (omega arith)
  | inr some ↦ (
      let off : eqb r.page n ≡ false = ne_eqb r.page n (λ e. absurd (omega arith)) in
      ap (λ o. list_any (λ name. has_name name r) (cons_option o (given numbered_pin (n + 1) vs)))
      (cond-false (eqb v 0) None (Some (record { page = n; version = v })) (ne_eqb v 0 some))
      ∙ ap (λ b. (b && eqb r.version v) || list_any (λ name. has_name name r) (given numbered_pin (n + 1) vs)) off
      ∙ pinned_from r (n + 1) i vs positive (omega arith) (omega arith))
]

-- a record is pinned where its page is pinned at its version
pub pinned_at_page : (r : Rec) (pins : List ℕ) → 1 ≤ r.version → r.page < length pins →
    list_any (λ name. has_name name r) (pinned_names pins) ≡ eqb r.version (get_or pins r.page 0)
pinned_at_page r pins positive within = pinned_from r 0 r.page pins positive within (omega arith)
