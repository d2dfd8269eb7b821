-- Truth values, and numbers that a test chooses or a width bounds.
use Rattle.std.proofs.Common.{◌≡◌, Bool, true, false, refl, sym, ◌||◌, ◌∙◌, ℕ, ◌<◌, cond, arith, ◌^◌, ◌≤◌, length}
use Rattle.std.specs.Fmt.{decimal}
use Rattle.std.proofs.lemmas.Bool.{false≢true}
use Rattle.std.proofs.lemmas.Fmt.{length-decimal-le}

-- two tests with one meaning are one
pub one_test : (a b : Bool) → (a ≡ true → b ≡ true) → (b ≡ true → a ≡ true) → a ≡ b
one_test true b f g = sym (f refl)
one_test false true f g = g refl
one_test false false f g = refl

-- the first of two tests holds where the second does not
pub or_first : (a b : Bool) → (a || b) ≡ true → b ≡ false → a ≡ true
or_first true b h other = refl
or_first false b h other = absurd (false≢true (sym other ∙ h))

-- the second of two tests holds where the first does not
pub or_second : (a b : Bool) → a ≡ false → (a || b) ≡ true → b ≡ true
or_second true b e k = absurd (false≢true (sym e))
or_second false b e k = k

-- where one of two numbers is chosen and the other is 0
pub if_positive : (b : Bool) (n : ℕ) → 0 < cond b n 0 → (b ≡ true) × (cond b n 0 ≡ n)
if_positive true n h = (refl, refl)
if_positive false n h = absurd (omega arith)

-- a number of 64 bits has at most 20 digits
pub digits_64 : (n : ℕ) → n < 2 ^ 64 → length (decimal n) ≤ 20
digits_64 n h = length-decimal-le 20 n (omega arith) (omega arith) h

-- and one of 32 bits at most 10
pub digits_32 : (n : ℕ) → n < 2 ^ 32 → length (decimal n) ≤ 10
digits_32 n h = length-decimal-le 10 n (omega arith) (omega arith) (omega arith)
