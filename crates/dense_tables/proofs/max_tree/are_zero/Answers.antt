-- No bit is set: none is above 0.
use Rattle.std.proofs.Common.{◌≡◌, ℕ, ◌+◌, ◌*◌, ◌^◌, ◌-◌, ◌%◌, ◌<◌, ◌≤◌, ltb, ap, eqb, eqb-true, Bool, true, cond, take, List, [], ◌∷◌, map, replicate, length, refl, sym, ◌∙◌, arith, w32}
use Rattle.std.proofs.lemmas.Bool.Decides.{nat_tests}
use Rattle.std.proofs.lemmas.List.{take_all, length-map}
use Rattle.std.proofs.lemmas.Simd.{tops_compared, zip2_splat_left, mask_l-mod}
use Rattle.dense_tables.specs.Greatest.{greatest}
use lib.Lanes.{zip2, mask_l, top}
use Rattle.dense_tables.proofs.max_tree.are_zero.Goals as goal

first_unset : (b : Bool) (n : ℕ) → cond b 1 0 + 2 * n < 1 → (cond b 1 0 < 1) × (n < 1)
first_unset b n h = (omega (arith, h), omega (arith, h))

none_above : (x : ℕ) → cond (ltb 0 x) 1 0 < 1 → x ≡ 0
none_above x h = grind (arith, nat_tests)

all_zero : (xs : List ℕ) → mask_l (map (λ x. ltb 0 x) xs) < 1 → greatest xs ≡ 0
all_zero [] h = refl
all_zero (x ∷ xs) h =
    let both = first_unset (ltb 0 x) (mask_l (map (λ z. ltb 0 z) xs)) h in
    let own = none_above x both.0 in
    let rest = all_zero xs both.1 in
    omega (arith, own, rest)

abbrev mask : List ℕ → ℕ
mask xs = mask_l (map (top 31) (zip2 (λ a b. cond (ltb a b) (2 ^ 32 - 1) 0) (replicate 16 0) xs)) % 2 ^ 64

mask_is : (xs : List ℕ) → length xs ≡ 16 → mask xs ≡ mask_l (map (λ x. ltb 0 x) xs)
mask_is xs long =
    let few : length (map (λ x. ltb 0 x) xs) ≤ 64 = omega (arith, length-map xs (λ x. ltb 0 x), long) in
    ap (λ ms. mask_l ms % 2 ^ 64) (tops_compared w32 ltb (replicate 16 0) xs ∙ zip2_splat_left ltb 0 16 xs long)
    ∙ mask_l-mod (map (λ x. ltb 0 x) xs) 64 few

pub returns : goal.returns
returns c = λ is.
    let xs = c.args.numbers.now in
    let whole = take_all 16 xs (omega (arith, c.requires)) in
    let said : eqb (mask (take 16 xs)) 0 ≡ true = is in
    let none : mask xs ≡ 0 = eqb-true (mask xs) 0 (rw whole at said) in
    let unset = sym (mask_is xs c.requires) ∙ none in
    all_zero xs (omega (arith, unset))
