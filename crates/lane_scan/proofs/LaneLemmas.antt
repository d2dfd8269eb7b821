-- From the mask of a comparison of two vectors to their lanes.
use Rattle.std.proofs.Common.{◌≡◌, ℕ, suc, ◌+◌, ◌*◌, ◌%◌, ◌^◌, eqb, Bool, true, false, not, ◌&&◌, cond, List, [], ◌∷◌, map, length, replicate, refl, sym, ap}
use Rattle.std.proofs.Common.{◌∙◌, arith, inl, inr, w8}
use Rattle.std.specs.List.{list_all, zip, prefix_len, common_prefix_len}
use Rattle.std.proofs.lemmas.Bool.{cases_eq, eq-eqb, ne_eqb}
use Rattle.std.proofs.lemmas.List.{length-map}
use Rattle.std.proofs.lemmas.Simd.{mask_l-mod, bitmask_splat, tops_compared, leading_from_mask_l, trailing_mask_l}
use lib.Count.{count_trailing_zeros}
use lib.Lanes.{zip2, mask_l, top}

-- two lanes differ
abbrev pub differ : ℕ → ℕ → Bool
differ a b = not (eqb a b)

-- a comparison sets all bits of a lane, or none
abbrev pub lanes_differ : ℕ → ℕ → ℕ
lanes_differ a b = cond (differ a b) 255 0

abbrev pub mask : List ℕ → List ℕ → ℕ
mask xs ys = mask_l (map (top 7) (zip2 lanes_differ xs ys)) % 2 ^ 64

doubled_none : (m : ℕ) (rest : Bool) → eqb m 0 ≡ rest → eqb (0 + 2 * m) 0 ≡ rest
doubled_none m rest h =
    elim (cases_eq m 0) [
      | inl zero ↦ eq-eqb (0 + 2 * m) 0 (omega arith) ∙ sym (eq-eqb m 0 zero) ∙ h
      | inr some ↦ ne_eqb (0 + 2 * m) 0 (λ e. some (omega arith)) ∙ sym (ne_eqb m 0 some) ∙ h
    ]

step : (b : Bool) (m : ℕ) (rest : Bool) → eqb m 0 ≡ rest → eqb (cond (not b) 1 0 + 2 * m) 0 ≡ (b && rest)
step true m rest h = doubled_none m rest h
step false m rest h = ne_eqb (1 + 2 * m) 0 (λ e. omega arith)

none_differ : (xs : List ℕ) (y : ℕ) → eqb (mask_l (map (λ x. differ x y) xs)) 0 ≡ list_all (λ x. eqb x y) xs
none_differ [] y = refl
none_differ (x ∷ xs) y = step (eqb x y) (mask_l (map (λ z. differ z y) xs)) (list_all (λ z. eqb z y) xs)
    (none_differ xs y)

-- no bit is set just where each lane has the value
pub mask-splat : (xs : List ℕ) (y : ℕ) → length xs ≡ 32 → eqb (mask xs (replicate 32 y)) 0 ≡ list_all (λ x. eqb x y) xs
mask-splat xs y long = ap (λ m. eqb m 0) (bitmask_splat w8 differ xs 32 y long (omega arith)) ∙ none_differ xs y

zip2-zip : (t : ℕ → ℕ → Bool) (xs ys : List ℕ) → zip2 t xs ys ≡ map (λ v. t v.0 v.1) (zip xs ys)
zip2-zip t [] ys = refl
zip2-zip t (x ∷ xs) [] = refl
zip2-zip t (x ∷ xs) (y ∷ ys) = ap (λ rest. t x y ∷ rest) (zip2-zip t xs ys)

same_head : (b : Bool) (m n : ℕ) → m ≡ n → cond (not (not b)) (1 + m) 0 ≡ cond b (1 + n) 0
same_head true m n h = ap (λ k. 1 + k) h
same_head false m n h = refl

pub prefix_len-zip : (xs ys : List ℕ) → prefix_len (λ v. not (differ v.0 v.1)) (zip xs ys) ≡ common_prefix_len eqb xs ys
prefix_len-zip [] ys = refl
prefix_len-zip (x ∷ xs) [] = refl
prefix_len-zip (x ∷ xs) (y ∷ ys) = same_head (eqb x y) _ _ (prefix_len-zip xs ys)

pub length-zip : (xs ys : List ℕ) → length xs ≡ length ys → length (zip xs ys) ≡ length xs
length-zip [] ys h = refl
length-zip (x ∷ xs) [] h = absurd (omega arith)
length-zip (x ∷ xs) (y ∷ ys) h = ap (λ n. suc n) (length-zip xs ys (omega arith))

module _ (xs ys : List ℕ) (long_x : length xs ≡ 32) (long_y : length ys ≡ 32) where
  abbrev pairs : List (ℕ × ℕ)
  pairs = zip xs ys

  abbrev parts : (ℕ × ℕ) → Bool
  parts v = differ v.0 v.1

  long : length pairs ≡ 32
  long = length-zip xs ys (omega arith) ∙ long_x

  mask_is : mask xs ys ≡ mask_l (map parts pairs)
  mask_is =
      ap (λ bits. mask_l bits % 2 ^ 64) (tops_compared w8 differ xs ys ∙ zip2-zip differ xs ys)
      ∙ mask_l-mod (map parts pairs) 64 (omega (arith, length-map pairs parts, long))

  -- where no bit is set, all lanes are the same
  pub all_same : mask xs ys ≡ 0 → 32 ≡ common_prefix_len eqb xs ys
  all_same none = sym long ∙ sym (leading_from_mask_l parts pairs (sym mask_is ∙ none)) ∙ prefix_len-zip xs ys

  -- else the lowest bit is that of the first lanes that differ
  pub first_differing : (mask xs ys ≡ 0 → ⊥) → count_trailing_zeros 64 (mask xs ys) ≡ common_prefix_len eqb xs ys
  first_differing some =
      ap (count_trailing_zeros 64) mask_is
      ∙ trailing_mask_l parts 64 pairs (omega (arith, long)) (omega (arith, mask_is))
      ∙ prefix_len-zip xs ys
