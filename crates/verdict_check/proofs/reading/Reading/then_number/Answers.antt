use Rattle.verdict_check.proofs.Common.{◌≡◌, ℕ, false, ◌+◌, ◌<◌, [], ◌∷◌, ap, arith, nat_tests, decimal}
use Rattle.std.proofs.Common.{◌/◌, ◌%◌}
use Rattle.std.specs.Fmt.{digits, digit_glyph}
use Rattle.verdict_check.proofs.reading.Reading.then_number.Goals as goal

-- a number below ten is one digit
glyph : (n : ℕ) → n < 10 → digit_glyph false n ≡ 48 + n
glyph n small = grind (arith, nat_tests)

one_digit : (n : ℕ) → n < 10 → decimal n ≡ (48 + n) ∷ []
unfolding digits
one_digit n small =
    let none : n / 10 ≡ 0 = omega arith in
    let same : n % 10 ≡ n = omega arith in
    rw (none, same) (ap (λ d. d ∷ []) (glyph n small))

pub returns-then-number-lt10 : goal.returns-then-number-lt10
returns-then-number-lt10 c = rw (one_digit c.args.number c.if-number-lt10.true) c.then.ensures
