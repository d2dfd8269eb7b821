-- The sum of the bytes that digits spell.
use Rattle.drive_gen.proofs.Common.{◌≡◌, ℕ, suc, ◌+◌, ◌<◌, ◌≤◌, List, [], ◌∷◌, length, drop, refl, arith, sum_of_bytes}
use Rattle.std.proofs.Common.{◌*◌, get_or}
use Rattle.std.proofs.lemmas.Bool.Decides.{nat_tests}
use Rattle.drive_gen.specs.Summary.{digit_value}

-- two digits more
pub sum_more : (digits : List ℕ) → 2 ≤ length digits
    → sum_of_bytes digits ≡ 16 * digit_value (get_or digits 0 0) + digit_value (get_or digits 1 0) + sum_of_bytes
    (drop 2 digits)
unfolding sum_of_bytes
sum_more [] h = absurd (omega arith)
sum_more (high ∷ []) h = absurd (omega arith)
sum_more (high ∷ low ∷ digits) h = refl

-- fewer than two digits spell nothing
pub sum_none : (digits : List ℕ) → length digits < 2 → sum_of_bytes digits ≡ 0
unfolding sum_of_bytes
sum_none [] h = refl
sum_none (digit ∷ []) h = refl
sum_none (high ∷ low ∷ digits) h = absurd (omega arith)

digit_most : (digit : ℕ) → digit_value digit ≤ 15
digit_most digit = grind (arith, nat_tests)

pair_more : (a b s n : ℕ) → a ≤ 15 → b ≤ 15 → s ≤ 128 * n → 16 * a + b + s ≤ 128 * suc (suc n)
pair_more a b s n p q r = omega arith

-- a byte has two digits, and is below 256
pub sum_most : (digits : List ℕ) → sum_of_bytes digits ≤ 128 * length digits
unfolding sum_of_bytes
sum_most [] = omega arith
sum_most (digit ∷ []) = omega arith
sum_most (high ∷ low ∷ digits) = pair_more (digit_value high) (digit_value low) (sum_of_bytes digits) (length digits)
    (digit_most high) (digit_most low)
    (sum_most digits)
