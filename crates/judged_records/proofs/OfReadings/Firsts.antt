-- The first number of a range that passes two tests.
use Rattle.judged_records.proofs.Common.{◌≡◌, ℕ, zero, suc, ◌+◌, ◌<◌, ◌≤◌, Bool, true, false, List, [], ◌∷◌, filter, find, Some, None, refl, sym, ap, ◌∙◌, inl, inr, arith, range_with_len, false≢true, cases_Bool, cases_eq, cond-true, cond-false, none-some, same_Some, from_filter}
use Rattle.std.specs.List.{slice_get}
use Rattle.list_lemmas.proofs.Ranges.{in_range}
use Rattle.list_lemmas.proofs.Tests.{none_found, find_stands}
use Rattle.list_lemmas.proofs.Membership.{in_filter}

-- the first item is the first that passes where each passes
pub head_find : {X : Type 0} (xs : List X) → slice_get xs 0 ≡ find (λ _. true) xs
head_find [] = refl
head_find (x ∷ xs) = refl

pub record IsFirst (p q : ℕ → Bool) (a at : ℕ) : Type 0 where
  pub one : p at ≡ true
  pub other : q at ≡ true
  pub least : (j : ℕ) → a ≤ j → p j ≡ true → q j ≡ true → at ≤ j

module _ (p q : ℕ → Bool) where
  least_passed : (a n at : ℕ) → find q (filter p (range_with_len a n)) ≡ Some at → (j : ℕ) → a ≤ j → p j ≡ true →
      q j ≡ true → at ≤ j
  least_passed a zero at e j low one other = absurd (none-some at e)
  least_passed a (suc n) at e j low one other =
      let rest = filter p (range_with_len (a + 1) n) in
      let later : find q rest ≡ Some at → (j ≡ a → ⊥) → at ≤ j =
      λ e' not_here. elim (cases_eq j a) [
        | inl here ↦ absurd (not_here here)
        | inr there ↦ least_passed (a + 1) n at e' j (omega arith) one other
      ] in
      elim (cases_Bool (p a)) [
        | inl pass ↦ (
            let e' : find q (a ∷ rest) ≡ Some at = ap (find q) (sym (cond-true (p a) (a ∷ rest) rest pass)) ∙ e in
            elim (cases_Bool (q a)) [
              | inl both ↦ (let same : a ≡ at = same_Some a at (sym (cond-true (q a) (Some a) (find q rest) both)
                  ∙ e') in omega arith)
              | inr fail ↦ later (sym (cond-false (q a) (Some a) (find q rest) fail) ∙ e')
                  (λ here. false≢true (sym fail ∙ ap q (sym here) ∙ other))
            ])
        | inr fail ↦ later (ap (find q) (sym (cond-false (p a) (a ∷ rest) rest fail)) ∙ e)
            (λ here. false≢true (sym fail ∙ ap p (sym here) ∙ one))
      ]

  pub first_passed : (a n at : ℕ) → find q (filter p (range_with_len a n)) ≡ Some at → IsFirst p q a at
  first_passed a n at e =
      let stands = find_stands q (filter p (range_with_len a n)) at e in
      record {
        one = (from_filter p at (range_with_len a n) stands.0).1;
        other = stands.1;
        least = least_passed a n at e;
      }

  pub none_passed : (n : ℕ) → find q (filter p (range_with_len 0 n)) ≡ None → (j : ℕ) → j < n → p j ≡ true → q j ≡ false
  none_passed n e j below one =
      none_found q (filter p (range_with_len 0 n)) e j
      (in_filter p j (range_with_len 0 n) (in_range 0 n j (omega arith) (omega arith)) one)
