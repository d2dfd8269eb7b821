-- Names beside a file.
use Rattle.durable_folder.proofs.Common.{◌≡◌, ℕ, ◌<◌, ◌≤◌, List, [], ◌++◌, length, Result, Ok, Err, ap, ◌∙◌, arith, inl, inr, cases_lt}
use Rattle.std.proofs.Common.{codes, slice_range}
use Rattle.std.specs.Fmt.{decimal}
use Rattle.std.specs.Prelude.{IfOk}
use Rattle.std.specs.Str.{IsCharBoundary}
use Rattle.durable_folder.specs.Places.{IsOwnBeside, number_text}

-- a text is not cut where it is short
kept_whole : (own : List ℕ) (kept : ℕ) → kept ≤ length own →
    ((i : ℕ) → kept < i → i ≤ 246 → (IsCharBoundary own i → ⊥)) → length own ≤ 246 →
    length own ≤ kept
kept_whole own kept within nearest short = elim (cases_lt kept (length own)) [
  | inl cut ↦ absurd (nearest (length own) cut short (omega arith, λ below. absurd (omega (arith, below))))
  | inr whole ↦ whole
]

own_text : (own : List ℕ) (number kept : ℕ) (text tail : List ℕ) → kept ≤ 246 → IsCharBoundary own kept →
    ((i : ℕ) → kept < i → i ≤ 246 → (IsCharBoundary own i → ⊥)) → tail ≡ number_text number →
    text ≡ slice_range own 0 kept ++ codes ".saving" ++ tail →
    IsOwnBeside own number text
own_text own number kept text tail bound boundary nearest same is = record {
  kept = kept;
  bound = bound;
  whole = kept_whole own kept boundary.0 nearest;
  is = is ∙ ap (λ t. slice_range own 0 kept ++ codes ".saving" ++ t) same;
}

pub own_if_ok : {S E : Type 0} (bytes : S → List ℕ) (own front : List ℕ) (number kept : ℕ) (tail : List ℕ)
    (r : Result S E) → kept ≤ 246 →
    IsCharBoundary own kept → ((i : ℕ) → kept < i → i ≤ 246 → (IsCharBoundary own i → ⊥)) → tail ≡ number_text number →
    front ≡ slice_range own 0 kept → IfOk r (λ s. bytes s ≡ front ++ codes ".saving" ++ tail) →
    IfOk r (λ s. IsOwnBeside own number (bytes s))
own_if_ok bytes own front number kept tail (Ok s) bound boundary nearest same is text =
    own_text own number kept (bytes s) tail bound boundary nearest same (rw is at text)
own_if_ok bytes own front number kept tail (Err e) bound boundary nearest same is text = tt

pub numbered : (number : ℕ) → 1 < number → decimal number ≡ number_text number
numbered number more = grind arith

pub not_numbered : (number : ℕ) → number ≤ 1 → [] ≡ number_text number
not_numbered number less = grind arith
