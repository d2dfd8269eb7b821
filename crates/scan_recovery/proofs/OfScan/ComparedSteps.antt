-- How many slots are compared, one record after another.
use Rattle.scan_recovery.proofs.Common.{◌≡◌, ℕ, ◌+◌, ◌*◌, ◌<◌, ◌≤◌, true, cond, List, length, get_or, take, count_by, ap, ◌∙◌, subst, inl, inr, arith, cases_Bool, cases_lt, get_or_default, FlashState, Contents, Shape, Found, nothing, ReadsAll, ReadsSome, is_compared, compared, AgreesWithLowest}
use Rattle.std.proofs.lemmas.List.{take_all}
use Rattle.std.proofs.lemmas.List.Sums.{count_by_more_yes, count_by_more_no, sum_by-take-le}
use Rattle.flash_model.specs.Operations.{Moment}
use Rattle.scan_recovery.proofs.OfScan.ReadingSteps.{reads_all_then, reads_some_then, reads_some_within}

-- how many of the first records are compared
abbrev pub first_compared : List Found → ℕ → ℕ
first_compared list at = count_by (is_compared list) (take at list)

-- the slots that are read for a record
abbrev pub reads_at : List Found → ℕ → ℕ
reads_at list at = cond (is_compared list (get_or list at nothing)) 2 0

compared_more : (list : List Found) (at : ℕ) → at < length list → 2 * first_compared list at + reads_at list at
    ≡ 2 * first_compared list (at + 1)
compared_more list at within = elim (cases_Bool (is_compared list (get_or list at nothing))) [
  | inl yes_here ↦
      let two : reads_at list at ≡ 2 = ap (λ b. cond b 2 0) yes_here in
      let more = count_by_more_yes (is_compared list) list at nothing within yes_here in
      omega arith
  | inr no_here ↦
      let none : reads_at list at ≡ 0 = ap (λ b. cond b 2 0) no_here in
      let more = count_by_more_no (is_compared list) list at nothing within no_here in
      omega arith
]

pub compared_all : (list : List Found) (at : ℕ) → length list ≤ at → first_compared list at ≡ compared list
unfolding compared
compared_all list at all = ap (count_by (is_compared list)) (take_all at list all)

compared_most : (list : List Found) (at : ℕ) → first_compared list at ≤ compared list
unfolding compared
compared_most list at = sum_by-take-le (λ f. cond (is_compared list f) 1 0) list at

module _ (a b c : FlashState) (list : List Found) (at : ℕ) (within : at < length list)
    (before : ReadsAll a b (2 * first_compared list at)) where
  pub compared_next : ReadsAll b c (reads_at list at) → ReadsAll a c (2 * first_compared list (at + 1))
  compared_next here =
      subst (ReadsAll a c) (compared_more list at within)
      (reads_all_then a b c (2 * first_compared list at) (reads_at list at) before here)

  pub compared_fault : ReadsSome b c true (reads_at list at) → ReadsSome a c true (2 * compared list)
  compared_fault here =
      reads_some_within a c true (2 * first_compared list at + reads_at list at) (2 * compared list)
      (reads_some_then a b c (2 * first_compared list at) (reads_at list at) true before here)
      (omega (arith, compared_more list at within, compared_most list (at + 1)))

pub compared_whole : (a b : FlashState) (list : List Found) (at : ℕ) → length list ≤ at →
    ReadsAll a b (2 * first_compared list at) →
    ReadsAll a b (2 * compared list)
compared_whole a b list at all before = subst (λ n. ReadsAll a b (2 * n)) (compared_all list at all) before

-- a fact on the shape and the image is one on those of before
pub as_before : (a b : FlashState) (count : ℕ) (P : Shape → List Contents → Type 0) → ReadsAll a b count →
    P b.shape b.image → P a.shape a.image
as_before a b count P ab p =
    let image : b.image ≡ a.image = ap (λ (m : Moment). m.image) ab.moment in
    subst (λ s. P s a.image) ab.carries.shape (subst (P b.shape) image p)

-- one record more agrees with the lowest of its name
pub agree_more : (page_bytes : ℕ) (image : List Contents) (list : List Found) (at : ℕ) → at < length list →
    ((k : ℕ) (d : Found) → k < at → AgreesWithLowest page_bytes image list (get_or list k d)) →
    AgreesWithLowest page_bytes image list (get_or list at nothing) →
    (k : ℕ) (d : Found) → k < at + 1 → AgreesWithLowest page_bytes image list (get_or list k d)
agree_more page_bytes image list at within before here k d below = elim (cases_lt k at) [
  | inl less ↦ before k d less
  | inr high ↦
      let same : at ≡ k = omega arith in
      subst (AgreesWithLowest page_bytes image list) (get_or_default list at nothing d within
      ∙ ap (λ j. get_or list j d) same) here
]
