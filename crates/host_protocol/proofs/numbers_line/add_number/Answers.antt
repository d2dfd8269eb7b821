use Rattle.host_protocol.proofs.Common.{◌≡◌, ℕ, false, ◌+◌, ◌<◌, ◌/◌, ◌%◌, [], ◌∷◌, ap, append_assoc, arith, nat_tests, decimal}
use Rattle.std.specs.Fmt.{digits, digit_glyph}
use Rattle.host_protocol.proofs.numbers_line.add_number.Goals as goal

-- a number below ten is one digit
glyph : (n : ℕ) → n < 10 → digit_glyph false n ≡ 48 + n
glyph n small = grind (arith, nat_tests)

one_digit : (n : ℕ) → n < 10 → decimal n ≡ (48 + n) ∷ []
unfolding digits
one_digit n small =
    let none : n / 10 ≡ 0 = omega arith in
    let same : n % 10 ≡ n = omega arith in
    rw (none, same) (ap (λ d. d ∷ []) (glyph n small))

pub returns-then-number-lt10-clause-items : goal.returns-then-number-lt10-clause-items
returns-then-number-lt10-clause-items c =
    let digit = one_digit c.args.number c.if-number-lt10.true in
    rw (
      c.push_reserved-then-number-lt10.ensures.items,
      c.push_reserved.ensures.items,
      digit,
    ) (append_assoc c.args.out.now.items (32 ∷ []) _)
