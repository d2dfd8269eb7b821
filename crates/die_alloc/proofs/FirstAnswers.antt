-- The first answer that a list of numbers gets.
use Rattle.std.proofs.Common.{◌≡◌, ℕ, ◌+◌, ◌-◌, ◌<◌, ◌≤◌, inl, inr, List, [], ◌∷◌, ◌++◌, suc, zero, Option, Some, None, refl, sym, arith}
use Rattle.std.specs.List.{range_with_len}
use Rattle.std.specs.Option.{option_or}
use Rattle.std.proofs.lemmas.Bool.{cases_lt}
use Rattle.list_lemmas.proofs.Options.{option_or_some, option_or_none, option_or_assoc}
use Rattle.die_alloc.specs.NextSlot.{first_answer}

-- of a range that is not empty, the first number is asked first
pub first_range : {B : Type 0} (f : ℕ → Option B) (from to : ℕ) → from < to
    → first_answer f (range_with_len from (to - from))
    ≡ option_or (f from) (first_answer f (range_with_len (from + 1) (to - (from + 1))))
first_range f from to h = let e : to - from ≡ suc (to - (from + 1)) = omega arith in rw e refl

pub first_answer-append : {A B : Type 0} (f : A → Option B) (xs ys : List A)
    → first_answer f (xs ++ ys) ≡ option_or (first_answer f xs) (first_answer f ys)
first_answer-append f [] ys = refl
first_answer-append f (x ∷ xs) ys = rw (first_answer-append f xs ys)
    (sym (option_or_assoc (f x) (first_answer f xs) (first_answer f ys)))

-- an answer is that of one of the numbers
pub answer_of_one : {B : Type 0} (f : ℕ → Option B) (from count : ℕ) (y : B) →
    first_answer f (range_with_len from count) ≡ Some y
    → (n : ℕ) × (from ≤ n) × (n < from + count) × (f n ≡ Some y)
answer_of_one f from zero y h = cc
answer_of_one f from (suc count) y h =
    elim (option_or_some (f from) (first_answer f (range_with_len (from + 1) count)) y h) [
      | inl own ↦ (from, omega arith, omega arith, own)
      | inr later ↦ let rest = answer_of_one f (from + 1) count y later.1 in (rest.0, omega arith, omega arith, rest.3)
    ]

-- where there is no answer, none of the numbers has one
pub no_answer : {B : Type 0} (f : ℕ → Option B) (from count : ℕ) → first_answer f (range_with_len from count) ≡ None
    → (n : ℕ) → from ≤ n → n < from + count → f n ≡ None
no_answer f from zero h n low high = absurd (omega arith)
no_answer f from (suc count) h n low high =
    let both = option_or_none (f from) (first_answer f (range_with_len (from + 1) count)) h in
    elim (cases_lt from n) [
      | inl later ↦ no_answer f (from + 1) count both.1 n (omega arith) (omega arith)
      | inr here ↦ let same : n ≡ from = omega arith in rw same both.0
    ]
