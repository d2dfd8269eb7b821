-- What is found in a list from which an item is gone.
use Rattle.slot_tables.proofs.Common.{◌≡◌, ℕ, ◌≤◌, ◌⊎◌, Bool, true, false, cond, inl, inr, Option, Some, None, List, [], ◌∷◌, ◌++◌, length, arith, refl, sym, ◌∙◌, ap, find, slice_get, cases_Option}
use Rattle.std.specs.Option.{option_or}
use Rattle.std.proofs.lemmas.Bool.{cases_Bool, cond-true, cond-false}
use Rattle.list_lemmas.proofs.Tests.{find_more}

-- an item that passes is the first one, or there is one before it
find_on : (p : ℕ → Bool) (at : ℕ) (front back : List ℕ) → p at ≡ true
    → (find p (front ++ at ∷ back) ≡ Some at) ⊎ ((z : ℕ) × (find p (front ++ at ∷ back) ≡ Some z)
    × (find p (front ++ back) ≡ Some z))
find_on p at [] back on = inl (cond-true (p at) (Some at) (find p back) on)
find_on p at (z ∷ zs) back on = elim (cases_Bool (p z)) [
  | inl passes ↦
      inr (
        z,
        cond-true (p z) (Some z) (find p (zs ++ at ∷ back)) passes,
        cond-true (p z) (Some z) (find p (zs ++ back)) passes,
      )
  | inr fails ↦
      let out = cond-false (p z) (Some z) (find p (zs ++ at ∷ back)) fails in
      elim (find_on p at zs back on) [
        | inl here ↦ inl (out ∙ here)
        | inr there ↦ inr (there.0, out ∙ there.1, cond-false (p z) (Some z) (find p (zs ++ back)) fails ∙ there.2)
      ]
]

-- the first item that passes, or the first of all where none does
abbrev pub chosen : (ℕ → Bool) → List ℕ → Option ℕ
chosen p l = option_or (find p l) (slice_get l 0)

-- it stays where another item is gone
pub chosen_left : (p : ℕ → Bool) (at : ℕ) (front back : List ℕ) → (chosen p (front ++ at ∷ back) ≡ Some at → ⊥)
    → chosen p (front ++ back) ≡ chosen p (front ++ at ∷ back)
chosen_left p at front back off = elim (cases_Bool (p at)) [
  | inl on ↦ elim (find_on p at front back on) [
    | inl here ↦ absurd (off (with_it (Some at) here))
    | inr there ↦ without (Some there.0) there.2 ∙ sym (with_it (Some there.0) there.1)
  ]
  | inr fails ↦
      let same = find_more p at front back fails in
      elim (cases_Option (find p (front ++ back))) [
        | inr some ↦ without (Some some.0) some.1 ∙ sym (with_it (Some some.0) (same ∙ some.1))
        | inl none ↦
            without None none ∙ first_left front (λ e. off (with_it None (same ∙ none) ∙ e))
            ∙ sym (with_it None (same ∙ none))
      ]
]
  where
    with_it : (o : Option ℕ) → find p (front ++ at ∷ back) ≡ o
        → chosen p (front ++ at ∷ back) ≡ option_or o (slice_get (front ++ at ∷ back) 0)
    with_it o e = ap (λ x. option_or x (slice_get (front ++ at ∷ back) 0)) e

    without : (o : Option ℕ) → find p (front ++ back) ≡ o →
        chosen p (front ++ back) ≡ option_or o (slice_get (front ++ back) 0)
    without o e = ap (λ x. option_or x (slice_get (front ++ back) 0)) e

    first_left : (l : List ℕ) → (slice_get (l ++ at ∷ back) 0 ≡ Some at → ⊥)
        → slice_get (l ++ back) 0 ≡ slice_get (l ++ at ∷ back) 0
    first_left [] other = absurd (other refl)
    first_left (z ∷ zs) other = refl

-- of one item or none it is the first, whatever passes
pub chosen_first : (p : ℕ → Bool) (xs : List ℕ) → length xs ≤ 1 → chosen p xs ≡ slice_get xs 0
chosen_first p [] low = refl
chosen_first p (x ∷ []) low = by (p x)
  where
    by : (b : Bool) → option_or (cond b (Some x) None) (Some x) ≡ Some x
    by true = refl
    by false = refl
chosen_first p (x ∷ y ∷ rest) low = absurd (omega (arith, low))
