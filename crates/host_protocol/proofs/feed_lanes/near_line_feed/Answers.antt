-- The lowest bit that is set is that of the first line feed.
use Rattle.std.proofs.Common.{◌≡◌, ℕ, suc, ◌+◌, ◌*◌, ◌^◌, ◌%◌, ◌<◌, eqb, ltb, Bool, true, false, cond, not, List, [], ◌∷◌, map, replicate, length, take, Some, None, sym, ◌∙◌, ap, arith, inl, inr, w8}
use Rattle.std.proofs.lemmas.Bool.{cases_eq}
use Rattle.std.proofs.lemmas.Bool.Decides.{nat_tests}
use Rattle.std.specs.List.{position, prefix_len}
use Rattle.std.proofs.lemmas.List.{length-take}
use Rattle.std.proofs.lemmas.Simd.{bitmask_splat, leading_from_mask_l, trailing_mask_l}
use lib.Count.{count_trailing_zeros}
use lib.Lanes.{zip2, mask_l, top}
use Rattle.host_protocol.proofs.feed_lanes.near_line_feed.Goals as goal

none_below : (p n : ℕ) → p ≡ n → cond (ltb p n) (Some p) None ≡ None
none_below p n same = let no : ltb p n ≡ false = grind (arith, nat_tests) in ap (λ b. cond b (Some p) None) no

one_below : (p n : ℕ) → p < n → cond (ltb p n) (Some p) None ≡ Some p
one_below p n less = let yes : ltb p n ≡ true = grind (arith, nat_tests) in ap (λ b. cond b (Some p) None) yes

less_first : (b : Bool) (m p n : ℕ) → (0 < m → p < n) → 0 < cond b 1 0 + 2 * m → cond (not b) (1 + p) 0 < suc n
less_first true m p n behind h = omega arith
less_first false m p n behind h = let less = behind (omega (arith, h)) in omega (arith, less)

some_less : (t : ℕ → Bool) (xs : List ℕ) → 0 < mask_l (map t xs) → prefix_len (λ x. not (t x)) xs < length xs
some_less t [] h = absurd (omega (arith, h))
some_less t (x ∷ xs) h =
    less_first (t x) (mask_l (map t xs)) (prefix_len (λ z. not (t z)) xs) (length xs) (some_less t xs) h

abbrev mask : List ℕ → ℕ → ℕ
mask xs y = mask_l (map (top 7) (zip2 (λ a b. cond (eqb a b) 255 0) xs (replicate 32 y))) % 2 ^ 64

mask_is : (xs : List ℕ) (y : ℕ) → length xs ≡ 32 → mask xs y ≡ mask_l (map (λ x. eqb x y) xs)
mask_is xs y long = bitmask_splat w8 eqb xs 32 y long (omega arith)

none_found : (xs : List ℕ) (y : ℕ) → length xs ≡ 32 → mask xs y ≡ 0 → None ≡ position (λ x. eqb x y) xs
none_found xs y long none =
    sym (none_below (prefix_len (λ x. not (eqb x y)) xs) (length xs)
    (leading_from_mask_l (λ x. eqb x y) xs (sym (mask_is xs y long) ∙ none)))

first_found : (xs : List ℕ) (y : ℕ) → length xs ≡ 32 → (mask xs y ≡ 0 → ⊥) →
    Some (count_trailing_zeros 64 (mask xs y)) ≡ position (λ x. eqb x y) xs
first_found xs y long some =
    let t : ℕ → Bool = λ x. eqb x y in
    let positive : 0 < mask_l (map t xs) = elim (cases_eq (mask_l (map t xs)) 0) [
      | inl zero ↦ absurd (some (mask_is xs y long ∙ zero))
      | inr other ↦ omega (arith, other)
    ] in
    ap Some (ap (count_trailing_zeros 64) (mask_is xs y long) ∙ trailing_mask_l t 64 xs (omega (arith, long)) positive)
    ∙ sym (one_below (prefix_len (λ x. not (t x)) xs) (length xs) (some_less t xs positive))

pub returns-then-found-eq0 : goal.returns-then-found-eq0
returns-then-found-eq0 c =
    none_found (take 32 c.args.bytes.now) 10 (omega (arith, c.requires, length-take 32 c.args.bytes.now))
    c.if-found-eq0.true

pub returns-else-found-eq0 : goal.returns-else-found-eq0
returns-else-found-eq0 c =
    first_found (take 32 c.args.bytes.now) 10 (omega (arith, c.requires, length-take 32 c.args.bytes.now))
    c.if-found-eq0.false
